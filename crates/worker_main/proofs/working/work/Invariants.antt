use Rattle.worker_main.specs.Slots.{ways}
use Rattle.worker_main.specs.Visits.{told}
use Rattle.worker_main.specs.Works.{TakesTurns}
use Rattle.worker_main.proofs.working.work.Given as goal

abbrev pub invariant-loop-turn : goal.invariant-loop-turn
invariant-loop-turn g l =
    TakesTurns (ways g.D.SlotAccess.views g.D.SlotAccess.commits g.D.SlotAccess.advances g.D.SlotAccess.heights g.D.SlotAccess.pauses g.D.SlotAccess.homes g.D.SlotAccess.hands
    g.D.WorkerAccess.arrives)
    l.fn.visiting (told (g.S.Signal.stops l.fn.signal) (g.S.Signal.looked l.fn.signal)) l._turn l.fn.door l.door
