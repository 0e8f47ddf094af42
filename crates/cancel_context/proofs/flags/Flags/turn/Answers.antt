use Rattle.std.proofs.Common.{◌≡◌, [], length, refl, sym, ap, subst, inl, arith}
use Rattle.std.proofs.lemmas.List.{nil_from_length}
use Rattle.cancel_context.specs.Flags.{Flagged, IsSpreading}
use Rattle.cancel_context.proofs.Chains.{IsHeld-within}
use Rattle.cancel_context.proofs.Spread.{spreading-end}
use Rattle.cancel_context.proofs.flags.Flags.turn.Goals as goal

pub index_mut-requires : goal.index_mut-requires
index_mut-requires c =
    let inside = IsHeld-within c.args.bindings.now c.args.context (c.requires.spreads.held c.args.context (inl refl)) in
    let size = ap (λ (f : Flagged). length f.flags) c.self.view_is in
    omega (arith, inside, size, c.requires.size, c.index.ensures, c.self.inside.is_cancelled.ok)

pub returns-clause-flags : goal.returns-clause-flags
returns-clause-flags c =
    let forest = c.args.bindings.now in
    let inside = c.self-in-loop-parent.inside in
    let spreads : IsSpreading forest inside.is_cancelled.items inside.reached.items [] c.args.is_cancelled =
    subst (λ (f : Flagged). IsSpreading forest f.flags f.reached [] c.args.is_cancelled) (sym c.self-in-loop-parent.view_is) c.loop-parent.invariant in
    let none : inside.reached.items ≡ [] = nil_from_length inside.reached.items (omega (arith, c.in_default.ensures.cases.0, inside.reached.ok)) in
    spreading-end forest inside.is_cancelled.items inside.reached.items c.args.is_cancelled c.requires.forest none spreads
