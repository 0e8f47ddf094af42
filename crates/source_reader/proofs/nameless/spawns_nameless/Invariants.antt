use Rattle.std.proofs.Common.{◌≡◌, ◌+◌, ◌≤◌, false, length}
use Rattle.source_reader.specs.Nameless.{spawns_nameless}
use Rattle.source_reader.proofs.nameless.spawns_nameless.Given as goal

abbrev pub invariant-loop-left : goal.invariant-loop-left
invariant-loop-left l = (spawns_nameless l.inner l.is_given l.left ≡ spawns_nameless 0 false l.fn.tokens) × (l.inner + length l.left ≤ length l.fn.tokens)

abbrev pub decreases-loop-left : goal.decreases-loop-left
decreases-loop-left l = length l.left
