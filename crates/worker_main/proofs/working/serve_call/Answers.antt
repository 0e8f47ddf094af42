use Rattle.worker_main.specs.Slots.{ways}
use Rattle.worker_main.specs.Visits.{told}
use Rattle.worker_main.proofs.Keeping.{call_kept, call_served}
use Rattle.worker_main.proofs.working.serve_call.Goals as goal

pub returns-clause-queues : goal.returns-clause-queues
returns-clause-queues g c =
    let w = ways g.D.SlotAccess.views g.D.SlotAccess.commits g.D.SlotAccess.advances g.D.SlotAccess.heights g.D.SlotAccess.pauses g.D.SlotAccess.homes g.D.SlotAccess.hands g.D.WorkerAccess.arrives in
    let l = told (g.S.Signal.stops c.args.signal.now) (g.S.Signal.looked c.args.signal.now) in
    call_kept w c.args.visiting l c.serve_first-is_called.result c.args.queues.now c.args.pass c.into_parts-pass.result.0 c.args.doors c.into_parts-pass.result.1 c.new.result c.new-door.result
    c.serve_first-is_called.new.door c.new.ensures c.new-door.ensures c.serve_first-is_called.ensures c.into_parts-pass.ensures.pass c.into_parts-pass.ensures.doors

pub returns-clause-serves : goal.returns-clause-serves
returns-clause-serves g c =
    let w = ways g.D.SlotAccess.views g.D.SlotAccess.commits g.D.SlotAccess.advances g.D.SlotAccess.heights g.D.SlotAccess.pauses g.D.SlotAccess.homes g.D.SlotAccess.hands g.D.WorkerAccess.arrives in
    let l = told (g.S.Signal.stops c.args.signal.now) (g.S.Signal.looked c.args.signal.now) in
    call_served w c.args.visiting l c.serve_first-is_called.result c.args.queues.now c.args.pass c.into_parts-pass.result.0 c.args.doors c.into_parts-pass.result.1 c.new.result c.new-door.result
    c.serve_first-is_called.new.door c.new.ensures c.new-door.ensures c.serve_first-is_called.ensures c.into_parts-pass.ensures.pass c.into_parts-pass.ensures.doors
