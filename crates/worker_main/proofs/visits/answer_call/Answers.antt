use Rattle.worker_main.specs.Slots.{ways}
use Rattle.worker_main.specs.Visits.{told}
use Rattle.worker_main.proofs.Rounds.{comes_at, comes_not}
use Rattle.worker_main.proofs.visits.answer_call.Goals as goal

pub returns-in-At : goal.returns-in-At
returns-in-At g c =
    let w = ways g.D.SlotAccess.views g.D.SlotAccess.commits g.D.SlotAccess.advances g.D.SlotAccess.heights g.D.SlotAccess.pauses g.D.SlotAccess.homes g.D.SlotAccess.hands g.D.WorkerAccess.arrives in
    let l = told (g.S.Signal.stops c.args.signal.now) (g.S.Signal.looked c.args.signal.now) in
    comes_at w c.args.visiting l c.args.call c.args.door.now c.arrive.new.self c.visit.new.door c.arrive.result c.in-At.field-0 c.in-At.is c.arrive.ensures c.visit.ensures

pub returns-in-Nothing : goal.returns-in-Nothing
returns-in-Nothing g c =
    let w = ways g.D.SlotAccess.views g.D.SlotAccess.commits g.D.SlotAccess.advances g.D.SlotAccess.heights g.D.SlotAccess.pauses g.D.SlotAccess.homes g.D.SlotAccess.hands g.D.WorkerAccess.arrives in
    let l = told (g.S.Signal.stops c.args.signal.now) (g.S.Signal.looked c.args.signal.now) in
    comes_not w c.args.visiting l c.args.call c.args.door.now c.arrive.new.self c.arrive.result c.in-Nothing.is c.arrive.ensures
