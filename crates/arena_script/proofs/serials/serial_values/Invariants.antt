use Rattle.std.proofs.Common.{ℕ, List, Option, IsSome}
use Rattle.std.specs.Io.KnownBytes.{Appends}
use Rattle.request_reader.specs.Calls.{AreCalls}
use Rattle.request_reader.specs.Reading.{work_left}
use Rattle.dump_lines.specs.Parts.{AppendsPart}
use Rattle.arena_script.specs.ScriptLines.{script_lines, all_lines}
use Rattle.arena_script.specs.SerialAnswers.{serial_answers}
use Rattle.arena_script.proofs.serials.serial_values.Given as goal

-- whoever answers the lines that are left has answered all, and whoever answers a part of them a part of all
abbrev pub invariant-loop-lines : goal.invariant-loop-lines
invariant-loop-lines g l = record {
  calls : AreCalls g.R.Source.called l.initial.lines.turns l.lines.turns l.initial.reader l.reader;
  answered :
      IsSome (g.R.Read.remaining l.initial.reader) →
      IsSome (g.R.Read.remaining l.reader)
      × ((after : Option (List ℕ)) →
      Appends (g.W.Write.contents l.writer) after (serial_answers (script_lines l.lines (g.R.Read.remaining l.reader))) →
      Appends (g.W.Write.contents l.initial.writer) after (serial_answers (all_lines (g.R.Read.remaining l.initial.reader))))
      × ((after : Option (List ℕ)) →
      AppendsPart (g.W.Write.contents l.writer) after (serial_answers (script_lines l.lines (g.R.Read.remaining l.reader))) →
      AppendsPart (g.W.Write.contents l.initial.writer) after (serial_answers (all_lines (g.R.Read.remaining l.initial.reader))));
}

abbrev pub decreases-loop-lines : goal.decreases-loop-lines
decreases-loop-lines g l = work_left l.lines
