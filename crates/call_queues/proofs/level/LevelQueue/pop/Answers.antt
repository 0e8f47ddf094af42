use Rattle.call_queues.proofs.Rules.{pops_at}
use Rattle.call_queues.proofs.level.LevelQueue.pop.Goals as goal

pub pop_as-requires-clause-rule : goal.pop_as-requires-clause-rule
pop_as-requires-clause-rule g c = pops_at _ _ _ _ _ c.pass.invariant.1
