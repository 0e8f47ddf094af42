use Rattle.std.proofs.Common.{◌≡◌, length}
use Rattle.source_reader.specs.Extents.{behind_begin}
use Rattle.source_reader.proofs.extents.behind_begin.Given as goal

abbrev pub invariant-loop-left : goal.invariant-loop-left
invariant-loop-left l = behind_begin l.left ≡ behind_begin l.fn.tokens

abbrev pub decreases-loop-left : goal.decreases-loop-left
decreases-loop-left l = length l.left
