use Rattle.std.proofs.Common.{◌≡◌, ◌++◌, length, map}
use Rattle.part_lines.specs.Journals.{journal_in}
use Rattle.part_lines.specs.JournalLines.{mark_seen}
use Rattle.part_lines.proofs.journals.read_journal.Given as goal

abbrev pub invariant-lines : goal.invariant-lines
invariant-lines l = journal_in l.bytes ≡ map mark_seen l.lines.items ++ journal_in l.left

abbrev pub decreases-lines : goal.decreases-lines
decreases-lines l = length l.left
