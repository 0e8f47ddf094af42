use Rattle.part_lines.proofs.Journal.{entries_first, marks_kept, marks_torn}
use Rattle.part_lines.proofs.laws.torn_journals_read_back.Goals as goal

pub returns : goal.returns
returns c = record { kept = marks_kept; torn = marks_torn; first = entries_first }
