use Rattle.session_core.specs.Waiting.{Pends}
use Rattle.session_core.proofs.jobs.collect.Given as goal

abbrev pub invariant-loop-turn : goal.invariant-loop-turn
invariant-loop-turn g l = Pends g.D.Doors.asks g.D.Doors.waits l.releases l.job l._turn l.fn.doors l.doors
