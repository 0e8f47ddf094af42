use Rattle.worker_main.specs.Slots.{ways}
use Rattle.worker_main.specs.Visits.{told}
use Rattle.worker_main.proofs.Rounds.{serves_some, serves_none}
use Rattle.worker_main.proofs.working.serve_first.Goals as goal

pub returns-in-Some : goal.returns-in-Some
returns-in-Some g c =
    let w = ways g.D.SlotAccess.views g.D.SlotAccess.commits g.D.SlotAccess.advances g.D.SlotAccess.heights g.D.SlotAccess.pauses g.D.SlotAccess.homes g.D.SlotAccess.hands g.D.WorkerAccess.arrives in
    let l = told (g.S.Signal.stops c.args.signal.now) (g.S.Signal.looked c.args.signal.now) in
    serves_some w c.args.visiting l c.args.door.now c.pop.new.self c.answer_call.new.door c.pop.result c.in-Some.call c.in-Some.is c.pop.ensures c.answer_call.ensures

pub returns-in-None : goal.returns-in-None
returns-in-None g c =
    let w = ways g.D.SlotAccess.views g.D.SlotAccess.commits g.D.SlotAccess.advances g.D.SlotAccess.heights g.D.SlotAccess.pauses g.D.SlotAccess.homes g.D.SlotAccess.hands g.D.WorkerAccess.arrives in
    let l = told (g.S.Signal.stops c.args.signal.now) (g.S.Signal.looked c.args.signal.now) in
    serves_none w c.args.visiting l c.args.door.now c.pop.new.self c.pop.result c.in-None.is c.pop.ensures
