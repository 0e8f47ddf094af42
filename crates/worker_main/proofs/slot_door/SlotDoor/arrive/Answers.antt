use Rattle.worker_main.proofs.Telling.{tells}
use Rattle.worker_main.proofs.slot_door.SlotDoor.arrive.Goals as goal

pub returns : goal.returns
returns g c = tells (λ d due f. g.D.WorkerAccess.arrives d c.args.call c.arrive-came.result.0 due f) c.args.self.now c.self.inside.ringer c.call_due.new.self c.self.inside.doors c.arrive-came.new.self
    c.arrive-came.result.1 c.self.view_is c.arrive-came.ensures.arrived c.call_due.ensures
