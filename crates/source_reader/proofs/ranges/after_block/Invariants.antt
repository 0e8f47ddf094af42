use Rattle.std.proofs.Common.{◌≡◌, ◌+◌, ◌≤◌, length}
use Rattle.source_reader.specs.Ranges.{after_block}
use Rattle.source_reader.proofs.ranges.after_block.Given as goal

abbrev pub invariant-loop-left : goal.invariant-loop-left
invariant-loop-left l = (after_block l.inner l.left ≡ after_block 0 l.fn.tokens) × (l.inner + length l.left ≤ length l.fn.tokens)

abbrev pub decreases-loop-left : goal.decreases-loop-left
decreases-loop-left l = length l.left
