use Rattle.std.proofs.Common.{◌+◌, [], length}
use Rattle.std.specs.Prelude.{count_by}
use Rattle.cancel_context.specs.Flags.{differs, IsSpreading}
use Rattle.cancel_context.proofs.flags.Flags.turn.Given as goal

abbrev pub invariant-loop-parent : goal.invariant-loop-parent
invariant-loop-parent l = IsSpreading l.bindings l.self.flags l.self.reached [] l.is_cancelled

abbrev pub decreases-loop-parent : goal.decreases-loop-parent
decreases-loop-parent l = length l.self.reached + count_by (differs l.is_cancelled) l.self.flags
