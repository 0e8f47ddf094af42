use Rattle.worker_main.specs.Slots.{ways}
use Rattle.worker_main.specs.Visits.{GoesAgain, told}
use Rattle.worker_main.proofs.visits.visit.Given as goal

abbrev pub invariant-loop-round : goal.invariant-loop-round
invariant-loop-round g l =
    GoesAgain (ways g.D.SlotAccess.views g.D.SlotAccess.commits g.D.SlotAccess.advances g.D.SlotAccess.heights g.D.SlotAccess.pauses g.D.SlotAccess.homes g.D.SlotAccess.hands g.D.WorkerAccess.arrives)
    l.fn.visiting (told (g.S.Signal.stops l.fn.signal) (g.S.Signal.looked l.fn.signal)) l.round l.fn.door l.door
