use Rattle.std.proofs.Common.{◌≡◌, ◌<◌, ℕ, List, Option, Some, None, length, ap, ◌∙◌, arith}
use Rattle.std.specs.Prelude.{slice_set}
use Rattle.std.proofs.lemmas.List.{get_or-set_same, length-set, set-set}
use Rattle.place_lists.specs.Links.{link_at}
use Rattle.place_lists.specs.Filing.{Filing}
use Rattle.place_lists.proofs.Filed.{filed}
use Rattle.place_lists.proofs.filing.Filing.file.Goals as goal

pub invariant_of-self : goal.invariant_of-self
invariant_of-self c =
    let before = c.args.self.now.by_place in
    let place = c.args.place in
    let at = c.self.inside.by_place.items in
    let taken : at ≡ slice_set before place None = ap (λ (f : Filing). f.by_place) (c.self.view_is ∙ c.unfile.ensures) in
    let within : place < length at = omega (arith, c.requires.place, ap length taken, length-set before place None) in
    let free : link_at at place ≡ None = ap (λ x. link_at x place) taken ∙ get_or-set_same before place None None c.requires.place in (
      filed c.self.inside.lists c.push.new.self at place c.self.invariant.0 within c.push.ensures.places c.args.list free c.push.ensures.pushed c.push.ensures.others,
      omega (arith, c.push.ensures.count, c.self.invariant.1),
    )

pub returns : goal.returns
returns c =
    let before = c.args.self.now.by_place in
    let view = c.self.view_is ∙ c.unfile.ensures in
    let taken : c.self.inside.by_place.items ≡ slice_set before c.args.place None = ap (λ (f : Filing). f.by_place) view in
    let count : length c.push.new.self.lists ≡ c.args.self.now.lists = c.push.ensures.count ∙ ap (λ (f : Filing). f.lists) view in
    ap (λ l. record { lists = l; by_place = slice_set c.self.inside.by_place.items c.args.place (Some c.args.list) }) count ∙
    ap (λ (b : List (Option ℕ)). record { lists = c.args.self.now.lists; by_place = slice_set b c.args.place (Some c.args.list) }) taken ∙
    ap (λ (b : List (Option ℕ)). record { lists = c.args.self.now.lists; by_place = b }) (set-set before c.args.place None (Some c.args.list))
