use Rattle.std.proofs.Common.{◌≡◌, length}
use Rattle.source_reader.specs.Gathering.{head_end}
use Rattle.source_reader.proofs.gathering.head_end.Given as goal

abbrev pub invariant-loop-left : goal.invariant-loop-left
invariant-loop-left l = head_end l.left ≡ head_end l.fn.tokens

abbrev pub decreases-loop-left : goal.decreases-loop-left
decreases-loop-left l = length l.left
