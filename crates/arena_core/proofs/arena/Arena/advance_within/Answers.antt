use Rattle.arena_steps.specs.Within.{advance_within}
use Rattle.arena_core.specs.Stands.{StandsFor}
use Rattle.arena_core.proofs.Standing.{made_counted, stands_advanced_within}
use Rattle.arena_core.proofs.arena.Arena.advance_within.Goals as goal

pub advance_within-requires-clause-rests : goal.advance_within-requires-clause-rests
advance_within-requires-clause-rests c = let some = c.self.invariant in (some.0, some.1.rests)

pub advance_within-requires-clause-counted : goal.advance_within-requires-clause-counted
advance_within-requires-clause-counted c = let some = c.self.invariant in made_counted c.self.inside.parts some.0 some.1

pub invariant_of-self : goal.invariant_of-self
invariant_of-self c =
    let some = c.self.invariant in (
      (advance_within c.args.has_room some.0 c.args.slot).1,
      stands_advanced_within c.self.inside.parts c.advance_within.new.parts c.args.has_room some.0 c.args.slot some.1 (c.advance_within.ensures some.0 some.1.rests).1,
    )

pub returns : goal.returns
returns c = λ s stands.
    let stood : StandsFor c.self.inside.parts s = rw (← c.self.view_is) at stands in
    let moved = c.advance_within.ensures s stood.rests in
    (moved.0, stands_advanced_within c.self.inside.parts c.advance_within.new.parts c.args.has_room s c.args.slot stood moved.1)
