use Rattle.tenant_model.specs.Asks.{ask}
use Rattle.arena_core.specs.Stands.{StandsFor}
use Rattle.arena_core.proofs.Standing.{stands_asked}
use Rattle.arena_core.proofs.arena.Arena.ask.Goals as goal

pub invariant_of-self : goal.invariant_of-self
invariant_of-self c =
    let some = c.self.invariant in
    ((ask some.0 c.args.request).1, stands_asked c.self.inside.parts c.ask.new.parts some.0 c.args.request some.1 c.job.ensures.valid (c.ask.ensures some.0 some.1.rests).1)

pub returns : goal.returns
returns c = λ s stands.
    let stood : StandsFor c.self.inside.parts s = rw (← c.self.view_is) at stands in
    let answer = c.ask.ensures s stood.rests in
    (answer.0, stands_asked c.self.inside.parts c.ask.new.parts s c.args.request stood c.job.ensures.valid answer.1)
