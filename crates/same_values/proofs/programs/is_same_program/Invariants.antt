use Rattle.std.proofs.Common.{◌≡◌, length}
use Rattle.std.specs.Prelude.{◌↔◌}
use Rattle.same_values.proofs.programs.is_same_program.Given as goal

abbrev pub invariant-loop-left : goal.invariant-loop-left
invariant-loop-left l = (l.left ≡ l.others) ↔ (l.fn.program ≡ l.fn.other)

abbrev pub decreases-loop-left : goal.decreases-loop-left
decreases-loop-left l = length l.left
