use Rattle.worker_main.proofs.Telling.{pops_of}
use Rattle.worker_main.proofs.ringer.Ringer.pop.Goals as goal

pub returns : goal.returns
returns g c = pops_of c.args.self.now c.self.inside.queues.now c.self.inside.pass c.pop_call.new.pass c.pop_call.result c.self.view_is c.pop_call.ensures.pass.0 c.pop_call.ensures.pass.1
    c.pop_call.ensures.popped
