use Rattle.std.proofs.Common.{◌≡◌, Option, Some, length, sym, ◌∙◌, ap, subst, arith}
use Rattle.std.specs.Prelude.{slice_set}
use Rattle.cancel_context.specs.Forest.{Binding, IsHeld, binding, without_parent}
use Rattle.cancel_context.specs.Below.{next_of}
use Rattle.cancel_context.proofs.Along.{IsOrphaning, along-fewer, orphaning-place, orphaning-held, orphaning-more, orphaning-end}
use Rattle.cancel_context.proofs.Rows.{steps}
use Rattle.cancel_context.proofs.contexts.orphan.Goals as goal

pub at_mut-requires : goal.at_mut-requires
at_mut-requires c =
    let o = subst (λ f. IsOrphaning c.args.bindings.now c.loop-following.bindings c.args.below.now c.args.parent f) c.in-Some.is c.loop-following.invariant in
    subst (λ i. IsHeld c.loop-following.bindings i) (sym c.index.ensures) (orphaning-held c.args.bindings.now c.loop-following.bindings c.args.below.now c.args.parent c.in-Some.context o)

pub next-following-requires : goal.next-following-requires
next-following-requires c =
    let o = subst (λ f. IsOrphaning c.args.bindings.now c.loop-following.bindings c.args.below.now c.args.parent f) c.in-Some.is c.loop-following.invariant in
    (orphaning-place c.args.bindings.now c.loop-following.bindings c.args.below.now c.args.parent c.in-Some.context o).1

pub loop-following-smaller : goal.loop-following-smaller
loop-following-smaller c =
    let links = c.args.below.now in
    let o = subst (λ f. IsOrphaning c.args.bindings.now c.loop-following.bindings links c.args.parent f) c.in-Some.is c.loop-following.invariant in
    let less = along-fewer c.args.bindings.now links c.args.parent c.in-Some.context o.rest o.along in
    omega (arith, less, ap (steps (length links.next) links.next) c.next-following.ensures, ap (steps (length links.next) links.next) c.in-Some.is)

pub loop-following-preserved : goal.loop-following-preserved
loop-following-preserved c =
    let links = c.args.below.now in
    let now = c.loop-following.bindings in
    let x = c.in-Some.context in
    let p = c.args.parent in
    let o = subst (λ f. IsOrphaning c.args.bindings.now now links p f) c.in-Some.is c.loop-following.invariant in
    let more = orphaning-more c.args.bindings.now now links p x o in
    let read : binding now x ≡ Some c.at_mut.result.now = ap (binding now) (sym c.index.ensures) ∙ c.at_mut.ensures.value in
    let value : Some c.leave.new.binding ≡ without_parent p (binding now x) = ap (λ (b : Binding). Some b) c.leave.ensures ∙ sym (ap (without_parent p) read) in
    let one = subst (λ (t : Option Binding). IsOrphaning c.args.bindings.now (slice_set now x t) links p (next_of links.next x)) (sym value) more in
    let two = subst (λ i. IsOrphaning c.args.bindings.now (slice_set now i (Some c.leave.new.binding)) links p (next_of links.next x)) (sym c.index.ensures) one in
    subst (λ t. IsOrphaning c.args.bindings.now (slice_set now c.index.result (Some c.leave.new.binding)) links p t) (sym c.next-following.ensures) two

pub returns : goal.returns
returns c =
    let o = subst (λ f. IsOrphaning c.args.bindings.now c.loop-following.bindings c.args.below.now c.args.parent f) c.in_default.is c.loop-following.invariant in
    orphaning-end c.args.bindings.now c.loop-following.bindings c.args.below.now c.args.parent o
