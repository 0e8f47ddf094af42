use Rattle.std.proofs.Common.{◌<◌, List, ℕ, Option, drop, get_or}
use Rattle.std.specs.Io.KnownBytes.{Appends}
use Rattle.job_language.specs.declared.steps.Entry.{Entry}
use Rattle.dump_lines.specs.Dumps.{HasLine, SaysItself, entries_text}
use Rattle.dump_lines.specs.Parts.{AppendsPart}
use Rattle.dump_lines.proofs.whole.write_entries.Given as goal

-- whoever writes the entries that are left, or a part of them, has written all, or a part
abbrev pub invariant-loop-entry : goal.invariant-loop-entry
invariant-loop-entry g l = record {
  written : (after : Option (List ℕ)) →
      Appends (g.W.Write.contents l.writer) after (entries_text (drop l.entry-index l.entries)) →
      Appends (g.W.Write.contents l.initial.writer) after (entries_text l.entries);
  part : (after : Option (List ℕ)) →
      AppendsPart (g.W.Write.contents l.writer) after (entries_text (drop l.entry-index l.entries)) →
      AppendsPart (g.W.Write.contents l.initial.writer) after (entries_text l.entries);
  lines : (k : ℕ) (d : Entry) → k < l.entry-index → HasLine (get_or l.entries k d);
  said : (k : ℕ) (d : Entry) → k < l.entry-index → SaysItself (get_or l.entries k d);
}
