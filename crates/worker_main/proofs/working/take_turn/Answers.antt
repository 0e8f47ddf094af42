use Rattle.worker_main.specs.Slots.{ways}
use Rattle.worker_main.specs.Visits.{told}
use Rattle.worker_main.proofs.Rounds.{turn_some, turn_none}
use Rattle.worker_main.proofs.working.take_turn.Goals as goal

pub returns-in-Some : goal.returns-in-Some
returns-in-Some g c =
    let w = ways g.D.SlotAccess.views g.D.SlotAccess.commits g.D.SlotAccess.advances g.D.SlotAccess.heights g.D.SlotAccess.pauses g.D.SlotAccess.homes g.D.SlotAccess.hands g.D.WorkerAccess.arrives in
    let l = told (g.S.Signal.stops c.args.signal.now) (g.S.Signal.looked c.args.signal.now) in
    turn_some w c.args.visiting l c.args.door.now c.pop.new.self c.answer_call.new.door c.pop.result c.in-Some.call c.in-Some.is c.pop.ensures c.answer_call.ensures

pub returns-in-None : goal.returns-in-None
returns-in-None g c =
    let w = ways g.D.SlotAccess.views g.D.SlotAccess.commits g.D.SlotAccess.advances g.D.SlotAccess.heights g.D.SlotAccess.pauses g.D.SlotAccess.homes g.D.SlotAccess.hands g.D.WorkerAccess.arrives in
    let l = told (g.S.Signal.stops c.args.signal.now) (g.S.Signal.looked c.args.signal.now) in
    turn_none w c.args.visiting l c.args.door.now c.pop.new.self c.pop.result c.in-None.is c.pop.ensures
