use Rattle.call_queues.proofs.Rules.{pops_at}
use Rattle.call_queues.proofs.level.LevelQueue.is_empty.Goals as goal

pub is_empty_as-requires-clause-rule : goal.is_empty_as-requires-clause-rule
is_empty_as-requires-clause-rule c = (pops_at _ _ _ _ _ c.pass.invariant.1).1
