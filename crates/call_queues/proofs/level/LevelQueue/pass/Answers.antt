use Rattle.std.proofs.Common.{ap, ◌∙◌}
use Rattle.call_queues.specs.Levels.{LevelPassSeen}
use Rattle.call_queues.proofs.Rules.{forks_at, first_view}
use Rattle.call_queues.proofs.level.LevelQueue.pass.Goals as goal

pub another-seat-requires-clause-rule : goal.another-seat-requires-clause-rule
another-seat-requires-clause-rule c = forks_at _ _ _ _ (first_view _ _ _ _ c.first.invariant.1 (ap (λ (p : LevelPassSeen). p.number) c.first.view_is ∙ c.requires.first))
