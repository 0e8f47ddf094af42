use Rattle.call_queues.proofs.Pops.{low_last}
use Rattle.call_queues.proofs.queues.CallQueues.pop_call.Goals as goal

pub returns-clause-popped : goal.returns-clause-popped
returns-clause-popped g c = low_last _ _ _ c.pass.inside.high c.pass.inside.normal c.pass.inside.low c.pass.view_is c.pass.invariant.0 c.pass.invariant.1 c.pass.invariant.2 _ _ _ _
    c.in_default.ensures.popped c.in_default-pop.ensures.popped c.pop-3.ensures.popped
