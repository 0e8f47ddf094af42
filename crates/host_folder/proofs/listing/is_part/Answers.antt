use Rattle.std.proofs.Common.{◌≡◌, ◌↔◌, ℕ, true, List, is_some, sym, subst, ◌∙◌, rules}
use Rattle.host_folder.proofs.Parts.{named, told}
use Rattle.host_folder.specs.Paths.{IsPartOf}
use Rattle.host_folder.proofs.listing.is_part.Goals as goal

pub returns-clause-exact : goal.returns-clause-exact
returns-clause-exact c =
    let is : c.is_some.result ≡ is_some c.before_part.result = search rules in
    subst (λ b. (b ≡ true) ↔ ((front : List ℕ) × IsPartOf front c.args.path.now)) (sym is) (told c.args.path.now c.before_part.result c.before_part.ensures)

pub returns-clause-left : goal.returns-clause-left
returns-clause-left c front p =
    let is : c.is_some.result ≡ is_some c.before_part.result = search rules in
    is ∙ (told c.args.path.now c.before_part.result c.before_part.ensures).1 (front, named front c.args.path.now p)
