use Rattle.std.proofs.Common.{◌≡◌, true, inl, inr, refl, arith}
use Rattle.arena_steps.specs.Within.{advance_within}
use Rattle.arena_core.specs.Stands.{StandsFor}
use Rattle.arena_core.specs.Views.{IsTopmost}
use Rattle.arena_core.proofs.Seen.{run_fits}
use Rattle.arena_core.proofs.Standing.{made_counted, stands_advanced_within}
use Rattle.arena_core.proofs.arena.Arena.commit_within.Goals as goal

pub returns-then-not-is_topmost : goal.returns-then-not-is_topmost
returns-then-not-is_topmost c = λ s stands.
    let stood : StandsFor c.self.inside.parts s = rw (← c.self.view_is) at stands in
    let other : IsTopmost s c.args.slot c.args.segment.now → ⊥ = λ is.
    let here : IsTopmost s c.args.slot c.top.result.now = rw c.top.ensures is in
    let same : c.is_topmost.result ≡ true = (c.is_topmost.ensures s stood.rests).1 here in
    absurd (grind (arith, same, c.if-not-is_topmost.true)) in
    (s, (inr (other, refl, refl), stands))

pub commit_within-requires-clause-runs : goal.commit_within-requires-clause-runs
commit_within-requires-clause-runs c =
    let some = c.self.invariant in
    let top : IsTopmost some.0 c.args.slot c.args.segment.now = rw (← c.top.ensures) ((c.is_topmost.ensures some.0 some.1.rests).0 c.if-not-is_topmost.false) in
    (some.0, top.0, run_fits c.self.inside.parts some.0 c.args.slot c.args.segment.now c.run.result some.1.rests top c.run.ensures.run)

pub commit_within-requires-clause-counted : goal.commit_within-requires-clause-counted
commit_within-requires-clause-counted c = let some = c.self.invariant in made_counted c.self.inside.parts some.0 some.1

pub invariant_of-self : goal.invariant_of-self
invariant_of-self c =
    let some = c.self.invariant in
    let top : IsTopmost some.0 c.args.slot c.args.segment.now = rw (← c.top.ensures) ((c.is_topmost.ensures some.0 some.1.rests).0 c.if-not-is_topmost.false) in
    let fits = run_fits c.self.inside.parts some.0 c.args.slot c.args.segment.now c.run.result some.1.rests top c.run.ensures.run in (
      (advance_within c.args.has_room some.0 c.args.slot).1,
      stands_advanced_within c.self.inside.parts c.commit_within.new.parts c.args.has_room some.0 c.args.slot some.1 (c.commit_within.ensures some.0 top.0 fits).1,
    )

pub returns : goal.returns
returns c = λ s stands.
    let stood : StandsFor c.self.inside.parts s = rw (← c.self.view_is) at stands in
    let top : IsTopmost s c.args.slot c.args.segment.now = rw (← c.top.ensures) ((c.is_topmost.ensures s stood.rests).0 c.if-not-is_topmost.false) in
    let moved = c.commit_within.ensures s top.0 (run_fits c.self.inside.parts s c.args.slot c.args.segment.now c.run.result stood.rests top c.run.ensures.run) in
    ((advance_within c.args.has_room s c.args.slot).1, (inl (top, moved.0, refl), stands_advanced_within c.self.inside.parts c.commit_within.new.parts c.args.has_room s c.args.slot stood moved.1))
