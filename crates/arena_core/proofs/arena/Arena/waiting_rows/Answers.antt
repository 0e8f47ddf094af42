use Rattle.arena_core.specs.Stands.{StandsFor}
use Rattle.arena_core.proofs.arena.Arena.waiting_rows.Goals as goal

pub returns : goal.returns
returns c = λ s stands.
    let stood : StandsFor c.self.inside.parts s = rw (← c.self.view_is) at stands in
    c.waiting_rows.ensures s stood.rests.holds
