use Rattle.worker_main.proofs.Telling.{pops_at}
use Rattle.worker_main.proofs.slot_door.SlotDoor.pop.Goals as goal

pub returns : goal.returns
returns g c = pops_at c.args.self.now c.self.inside.ringer c.pop.new.self c.self.inside.doors c.pop.result c.self.view_is c.pop.ensures
