use Rattle.worker_main.proofs.Telling.{tells}
use Rattle.worker_main.proofs.slot_door.SlotDoorDoor.commit.Goals as goal

pub returns : goal.returns
returns g c =
    tells (λ d due f. g.D.SlotAccess.commits d c.args.segment c.commit-moved.result.0 due f) c.args.self.now c.self.inside.ringer c.call_due.new.self c.self.inside.doors c.commit-moved.new.self
    c.commit-moved.result.1 c.self.view_is c.commit-moved.ensures.committed c.call_due.ensures
