use Rattle.std.proofs.Common.{◌≡◌, ◌<◌, ◌++◌, ℕ, drop, get_or, string_bytes}
use Rattle.job_language.specs.declared.steps.Entry.{Entry}
use Rattle.dump_lines.specs.Dumps.{HasLine, SaysItself, entries_text}
use Rattle.part_writer.proofs.texts.entries_of.Given as goal

abbrev pub invariant-loop-entry : goal.invariant-loop-entry
invariant-loop-entry l = record {
  text : entries_text l.entries ≡ string_bytes l.text ++ entries_text (drop l.entry-index l.entries);
  lines : (k : ℕ) (d : Entry) → k < l.entry-index → HasLine (get_or l.entries k d);
  says : (k : ℕ) (d : Entry) → k < l.entry-index → SaysItself (get_or l.entries k d);
}
