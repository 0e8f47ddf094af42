use Rattle.call_queues.proofs.Rules.{begins}
use Rattle.call_queues.proofs.level.LevelQueue.new.Goals as goal

pub ruled-requires-clause-rule : goal.ruled-requires-clause-rule
ruled-requires-clause-rule c = begins
