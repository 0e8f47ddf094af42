use Rattle.std.proofs.Common.{length, refl, sym, ◌∙◌, ap, subst, inl, arith}
use Rattle.cancel_context.proofs.Chains.{IsHeld-within}
use Rattle.cancel_context.proofs.Along.{along-fewer}
use Rattle.cancel_context.proofs.Spread.{IsVisiting, IsIn-last, visiting-start, visiting-held, visiting-more, visiting-end, visited-turned, turned-more}
use Rattle.cancel_context.proofs.Rows.{steps}
use Rattle.cancel_context.proofs.flags.Flags.spread.Goals as goal

pub first-following-requires : goal.first-following-requires
first-following-requires c =
    let s = c.requires.spreads in
    let held = s.held c.args.parent (IsIn-last c.args.self.now.reached c.args.parent) in
    let inside = IsHeld-within c.args.bindings.now c.args.parent held in
    omega (arith, inside, c.requires.linked.lists.first_size)

pub loop-following-init : goal.loop-following-init
loop-following-init c =
    let links = c.args.below.now in
    let f = c.args.self.now in
    let start = visiting-start c.args.bindings.now links f.flags f.reached c.args.parent c.args.is_cancelled c.requires.linked c.requires.spreads in
    record {
      visiting = subst (λ t. IsVisiting c.args.bindings.now links f.flags f.reached t c.args.parent c.args.is_cancelled) (sym c.first-following.ensures) start;
      fewer = refl;
      turned = λ d. inl refl;
      kept = λ d i. i;
    }

pub visit-requires-clause-place : goal.visit-requires-clause-place
visit-requires-clause-place c =
    let f = c.loop-following.self in
    let v = subst (λ t. IsVisiting c.args.bindings.now c.args.below.now f.flags f.reached t c.args.parent c.args.is_cancelled) c.in-Some.is c.loop-following.invariant.visiting in
    let held = visiting-held c.args.bindings.now c.args.below.now f.flags f.reached c.in-Some.context c.args.parent c.args.is_cancelled v in
    let inside = IsHeld-within c.args.bindings.now c.in-Some.context held in
    omega (arith, inside, v.spreads.size)

pub visit-requires-clause-size : goal.visit-requires-clause-size
visit-requires-clause-size c = c.loop-following.invariant.visiting.spreads.size

pub visit-requires-clause-room : goal.visit-requires-clause-room
visit-requires-clause-room c = c.loop-following.invariant.visiting.spreads.room

pub next-following-requires : goal.next-following-requires
next-following-requires c =
    let f = c.loop-following.self in
    let v = subst (λ t. IsVisiting c.args.bindings.now c.args.below.now f.flags f.reached t c.args.parent c.args.is_cancelled) c.in-Some.is c.loop-following.invariant.visiting in
    let held = visiting-held c.args.bindings.now c.args.below.now f.flags f.reached c.in-Some.context c.args.parent c.args.is_cancelled v in
    let inside = IsHeld-within c.args.bindings.now c.in-Some.context held in
    omega (arith, inside, v.along.size)

pub loop-following-smaller : goal.loop-following-smaller
loop-following-smaller c =
    let links = c.args.below.now in
    let f = c.loop-following.self in
    let v = subst (λ t. IsVisiting c.args.bindings.now links f.flags f.reached t c.args.parent c.args.is_cancelled) c.in-Some.is c.loop-following.invariant.visiting in
    let less = along-fewer c.args.bindings.now links c.args.parent c.in-Some.context v.rest v.along in
    omega (arith, less, ap (steps (length links.next) links.next) c.next-following.ensures, ap (steps (length links.next) links.next) c.in-Some.is)

pub loop-following-preserved : goal.loop-following-preserved
loop-following-preserved c =
    let links = c.args.below.now in
    let f = c.loop-following.self in
    let after = c.visit.new.self in
    let v = subst (λ t. IsVisiting c.args.bindings.now links f.flags f.reached t c.args.parent c.args.is_cancelled) c.in-Some.is c.loop-following.invariant.visiting in
    let more = visiting-more c.args.bindings.now links f.flags f.reached c.in-Some.context c.args.parent c.args.is_cancelled after c.visit.ensures v in
    let step = visited-turned c.args.bindings.now f c.in-Some.context c.args.is_cancelled after c.visit.ensures in
    record {
      visiting = subst (λ t. IsVisiting c.args.bindings.now links after.flags after.reached t c.args.parent c.args.is_cancelled) (sym c.next-following.ensures) more.0;
      fewer = more.1 ∙ c.loop-following.invariant.fewer;
      turned = turned-more c.args.self.now f after c.loop-following.invariant.turned step;
      kept = λ d i. (step d).1 (c.loop-following.invariant.kept d i);
    }

pub returns-clause-spreads : goal.returns-clause-spreads
returns-clause-spreads c =
    let f = c.loop-following.self in
    let v = subst (λ t. IsVisiting c.args.bindings.now c.args.below.now f.flags f.reached t c.args.parent c.args.is_cancelled) c.in_default.is c.loop-following.invariant.visiting in
    visiting-end c.args.bindings.now c.args.below.now f.flags f.reached c.args.parent c.args.is_cancelled v

pub returns-clause-fewer : goal.returns-clause-fewer
returns-clause-fewer c = c.loop-following.invariant.fewer
