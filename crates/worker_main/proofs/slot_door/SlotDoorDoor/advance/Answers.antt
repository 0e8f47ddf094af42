use Rattle.worker_main.proofs.Telling.{tells}
use Rattle.worker_main.proofs.slot_door.SlotDoorDoor.advance.Goals as goal

pub returns : goal.returns
returns g c = tells (λ d due f. g.D.SlotAccess.advances d c.advance-moved.result.0 due f) c.args.self.now c.self.inside.ringer c.call_due.new.self c.self.inside.doors c.advance-moved.new.self
    c.advance-moved.result.1 c.self.view_is c.advance-moved.ensures.advanced c.call_due.ensures
