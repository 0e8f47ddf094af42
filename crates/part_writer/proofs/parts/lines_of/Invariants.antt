use Rattle.std.proofs.Common.{◌≡◌, ◌<◌, ◌++◌, ℕ, drop, get_or}
use Rattle.job_language.specs.declared.steps.Entry.{Entry}
use Rattle.dump_lines.specs.Dumps.{HasLine, entries_text}
use Rattle.part_writer.proofs.parts.lines_of.Given as goal

abbrev pub invariant-loop-entry : goal.invariant-loop-entry
invariant-loop-entry l = record {
  text : entries_text l.entries ≡ l.text.items ++ entries_text (drop l.entry-index l.entries);
  lines : (k : ℕ) (d : Entry) → k < l.entry-index → HasLine (get_or l.entries k d);
}
