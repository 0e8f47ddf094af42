use Rattle.std.proofs.Common.{length}
use Rattle.cancel_context.proofs.Along.{IsOrphaning}
use Rattle.cancel_context.proofs.Rows.{steps}
use Rattle.cancel_context.proofs.contexts.orphan.Given as goal

abbrev pub invariant-loop-following : goal.invariant-loop-following
invariant-loop-following l = IsOrphaning l.fn.bindings l.bindings l.below l.parent l.following

abbrev pub decreases-loop-following : goal.decreases-loop-following
decreases-loop-following l = steps (length l.below.next) l.below.next l.following
