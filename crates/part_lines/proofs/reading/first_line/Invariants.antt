use Rattle.std.proofs.Common.{ℕ, ◌<◌, get_or}
use Rattle.part_lines.proofs.FirstLine.{IsPlainByte}
use Rattle.part_lines.proofs.reading.first_line.Given as goal

abbrev pub invariant-loop-at : goal.invariant-loop-at
invariant-loop-at l = (k : ℕ) → k < l.at → IsPlainByte (get_or l.bytes k 0)
