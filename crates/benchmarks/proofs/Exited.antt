-- A row that is entered and exits: the map is then as it was.
use Rattle.std.proofs.Common.{◌≡◌, ℕ, Option, None, subst, ap, ◌∙◌, arith}
use Rattle.std.specs.Prelude.{slice_set}
use Rattle.std.proofs.lemmas.List.{set-get_or, set-set}
use Rattle.region_tag.specs.declared.regions.Tagged.{Tagged}
use Rattle.region_tag.specs.Region.{Table}
use Rattle.benchmarks.specs.Entered.{IsFreeFrom}

pub exited : (regions more less : Table) (free place : ℕ) (t : Option Tagged) → IsFreeFrom regions free → place ≡ free → more ≡ slice_set regions place t → less ≡ slice_set more place None →
    less ≡ regions
exited regions more less free place t none at enters exits =
    exits
    ∙ ap (λ (r : Table). slice_set r place None) enters
    ∙ set-set regions place t None
    ∙ subst (λ (x : Option Tagged). slice_set regions place x ≡ regions) (none place (omega arith)) (set-get_or regions place None)
