-- The lines of a journal, as they are read.
use Rattle.part_lines.specs.Journals.{Mark, names, says}
use Rattle.part_lines.specs.declared.journals.JournalLine.{JournalLine}
use Rattle.part_lines.specs.declared.journals.JournalLine.TheVariants as line

abbrev pub mark_seen : JournalLine → Mark
mark_seen (line.Names c) = names c
mark_seen (line.Says e) = says e
