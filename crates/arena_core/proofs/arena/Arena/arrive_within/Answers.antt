use Rattle.arena_steps.specs.Within.{arrive_within}
use Rattle.arena_core.specs.Stands.{StandsFor}
use Rattle.arena_core.proofs.Standing.{stands_arrived_within}
use Rattle.arena_core.proofs.arena.Arena.arrive_within.Goals as goal

pub invariant_of-self : goal.invariant_of-self
invariant_of-self c =
    let some = c.self.invariant in (
      (arrive_within c.args.has_room some.0 c.args.slot).1,
      stands_arrived_within c.self.inside.parts c.arrive_within.new.parts c.args.has_room some.0 c.args.slot some.1 (c.arrive_within.ensures some.0 some.1.rests).1,
    )

pub returns : goal.returns
returns c = λ s stands.
    let stood : StandsFor c.self.inside.parts s = rw (← c.self.view_is) at stands in
    let came = c.arrive_within.ensures s stood.rests in
    (came.0, stands_arrived_within c.self.inside.parts c.arrive_within.new.parts c.args.has_room s c.args.slot stood came.1)
