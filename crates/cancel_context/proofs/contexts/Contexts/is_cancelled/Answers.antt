use Rattle.std.proofs.Common.{subst}
use Rattle.cancel_context.specs.Forest.{IsForest}
use Rattle.cancel_context.proofs.Chains.{IsForest-ordered}
use Rattle.cancel_context.proofs.contexts.Contexts.is_cancelled.Goals as goal

pub returns-clause-forest : goal.returns-clause-forest
returns-clause-forest c = subst IsForest c.self.view_is (IsForest-ordered c.self.inside.bindings c.self.invariant.sound.ordered)
