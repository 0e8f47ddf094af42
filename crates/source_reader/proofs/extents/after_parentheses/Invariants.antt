use Rattle.std.proofs.Common.{◌≡◌, ◌+◌, ◌≤◌, length}
use Rattle.source_reader.specs.Extents.{after_parentheses}
use Rattle.source_reader.proofs.extents.after_parentheses.Given as goal

abbrev pub invariant-loop-left : goal.invariant-loop-left
invariant-loop-left l = (after_parentheses l.inner l.left ≡ after_parentheses 0 l.fn.tokens) × (l.inner + length l.left ≤ length l.fn.tokens)

abbrev pub decreases-loop-left : goal.decreases-loop-left
decreases-loop-left l = length l.left
