use Rattle.std.proofs.Common.{◌≡◌, ◌++◌, length}
use Rattle.part_lines.specs.Parts.{entries_said, whole_lines}
use Rattle.part_lines.proofs.reading.read_entries.Given as goal

abbrev pub invariant-lines : goal.invariant-lines
invariant-lines l = entries_said (whole_lines l.bytes) ≡ l.entries.items ++ entries_said (whole_lines l.left)

abbrev pub decreases-lines : goal.decreases-lines
decreases-lines l = length l.left
