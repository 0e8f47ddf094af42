use Rattle.tenant_model.specs.Advance.{arrive}
use Rattle.arena_core.specs.Stands.{StandsFor}
use Rattle.arena_core.proofs.Standing.{stands_arrived}
use Rattle.arena_core.proofs.arena.Arena.arrive.Goals as goal

pub invariant_of-self : goal.invariant_of-self
invariant_of-self c =
    let some = c.self.invariant in
    ((arrive some.0 c.args.slot).1, stands_arrived c.self.inside.parts c.arrive.new.self some.0 c.args.slot some.1 (c.arrive.ensures some.0 some.1.rests).1)

pub returns : goal.returns
returns c = λ s stands.
    let stood : StandsFor c.self.inside.parts s = rw (← c.self.view_is) at stands in
    let came = c.arrive.ensures s stood.rests in
    (came.0, stands_arrived c.self.inside.parts c.arrive.new.self s c.args.slot stood came.1)
