use Rattle.std.proofs.Common.{refl}
use Rattle.call_queues.proofs.Rules.{pushes_at}
use Rattle.call_queues.proofs.level.LevelQueue.push.Goals as goal

pub push_as-requires-clause-rule : goal.push_as-requires-clause-rule
push_as-requires-clause-rule g c = pushes_at _ _ _ _ _ _ _ c.pass.invariant.1 c.self.invariant refl c.pass.invariant.2
