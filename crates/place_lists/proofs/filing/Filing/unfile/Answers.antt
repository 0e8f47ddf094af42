use Rattle.std.proofs.Common.{◌≡◌, ◌≢◌, ◌<◌, ◌≤◌, ℕ, Some, None, length, refl, sym, ap, ◌∙◌, subst, arith}
use Rattle.std.specs.Prelude.{slice_set}
use Rattle.std.proofs.lemmas.List.{get_or_default}
use Rattle.place_lists.specs.Links.{link_at}
use Rattle.place_lists.specs.Lists.{list_in, IsIn}
use Rattle.place_lists.specs.declared.filing.Filing.TheInside.{Inside}
use Rattle.place_lists.specs.Filing.{Filing, AreFiled}
use Rattle.place_lists.proofs.Filed.{unfiled, unfiled-from}
use Rattle.place_lists.proofs.filing.Filing.unfile.Goals.{in-Some, in_default}
use Rattle.place_lists.proofs.filing.Filing.unfile.Goals as goal

pub invariant_of-self : goal.invariant_of-self
invariant_of-self c =
    let lists = c.self.inside.lists in
    let at = c.self.inside.by_place.items in
    let place = c.args.place in
    let within : place < length at = omega (arith, c.requires, ap (λ (f : Filing). length f.by_place) c.self.view_is) in
    let is : link_at at place ≡ c.index.result.now = sym (get_or_default at place c.index.result.now None within) ∙ sym c.index.ensures in
    elim c.match-index.branch [
      | in-Some w ↦ subst (λ (i : Inside). AreFiled i.lists (slice_set i.by_place.items place None) × (length i.lists.lists ≤ 65536)) (sym w.self-inside-is) (
        unfiled-from lists w.remove.new.self at place c.self.invariant.0 within w.remove.ensures.places w.in-Some.list w.remove.ensures.removed,
        omega (arith, w.remove.ensures.count, c.self.invariant.1),
      )
      | in_default w ↦
          let free : link_at at place ≡ None = is ∙ w.in_default.is in
          let apart : (l q : ℕ) → IsIn (list_in lists l) q → q ≢ place = λ l q i same. let wrong : None ≡ Some l = sym free ∙ ap (link_at at) (sym same) ∙ c.self.invariant.0.noted l q i in cc in
          subst (λ (i : Inside). AreFiled i.lists (slice_set i.by_place.items place None) × (length i.lists.lists ≤ 65536)) (sym w.self-inside-is)
          (unfiled lists lists at place c.self.invariant.0 within refl (λ l q ne i. i) (λ l q i. (i, apart l q i)), c.self.invariant.1)
    ]
