use Rattle.worker_main.specs.Slots.{ways}
use Rattle.worker_main.specs.Visits.{told}
use Rattle.worker_main.proofs.Keeping.{worked, pass_kept}
use Rattle.worker_main.proofs.working.worker.Goals as goal

pub returns-clause-pass : goal.returns-clause-pass
returns-clause-pass g c =
    let w = ways g.D.SlotAccess.views g.D.SlotAccess.commits g.D.SlotAccess.advances g.D.SlotAccess.heights g.D.SlotAccess.pauses g.D.SlotAccess.homes g.D.SlotAccess.hands g.D.WorkerAccess.arrives in
    let l = told (g.S.Signal.stops c.args.signal.now) (g.S.Signal.looked c.args.signal.now) in
    pass_kept w c.args.visiting l c.args.queues.now c.args.pass c.into_parts.result.0 c.args.doors c.into_parts.result.1 c.new.result c.new-door.result c.work.new.door c.new.ensures c.new-door.ensures
    c.work.ensures c.into_parts.ensures.pass c.into_parts.ensures.doors

pub returns-clause-works : goal.returns-clause-works
returns-clause-works g c =
    let w = ways g.D.SlotAccess.views g.D.SlotAccess.commits g.D.SlotAccess.advances g.D.SlotAccess.heights g.D.SlotAccess.pauses g.D.SlotAccess.homes g.D.SlotAccess.hands g.D.WorkerAccess.arrives in
    let l = told (g.S.Signal.stops c.args.signal.now) (g.S.Signal.looked c.args.signal.now) in
    worked w c.args.visiting l c.args.queues.now c.args.pass c.into_parts.result.0 c.args.doors c.into_parts.result.1 c.new.result c.new-door.result c.work.new.door c.new.ensures c.new-door.ensures
    c.work.ensures c.into_parts.ensures.pass c.into_parts.ensures.doors
