use Rattle.std.proofs.Common.{◌≡◌, ◌<◌, ℕ, List, Option, Some, None, length, ap, sym, ◌∙◌, arith}
use Rattle.std.specs.Prelude.{slice_set}
use Rattle.std.proofs.lemmas.List.{get_or_default, length-set}
use Rattle.cancel_context.specs.Below.{next_of, Links}
use Rattle.cancel_context.proofs.below.Below.join.Goals as goal

pub link-requires : goal.link-requires
link-requires c x e =
    let links : Links = c.args.self.now in
    let p = c.in-Some.parent in
    let emptied = slice_set links.first c.args.context None in
    let inside = slice_set c.self.inside.first.items c.index.result None in
    let same : inside ≡ emptied = ap (λ i. slice_set c.self.inside.first.items i None) c.index.ensures ∙ ap (λ (l : Links). slice_set l.first c.args.context None) c.self.view_is in
    let place = c.requires.parent p c.in-Some.is in
    let within : c.index-6.result < length inside = omega (arith, place.in_first, c.index-6.ensures, ap length same, length-set links.first c.args.context None) in
    let at : next_of emptied p ≡ Some x =
    ap (λ (l : List (Option ℕ)). next_of l p) (sym same) ∙ ap (next_of inside) (sym c.index-6.ensures) ∙ sym (get_or_default inside c.index-6.result c.index-7.result.now None within) ∙
    sym c.index-7.ensures ∙ e in
    let there = c.requires.follower p c.in-Some.is x at in
    let size = ap (λ (l : Links). length l.previous) c.self.view_is in
    omega (arith, there.in_previous, size, ap length c.deref_mut.ensures.value, length-set c.self.inside.previous.items c.index-5.result None)
