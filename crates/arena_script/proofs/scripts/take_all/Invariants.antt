use Rattle.std.proofs.Common.{ℕ, List, Option, IsSome}
use Rattle.std.specs.Io.KnownBytes.{Appends}
use Rattle.request_reader.specs.Calls.{AreCalls}
use Rattle.request_reader.specs.Reading.{work_left}
use Rattle.tenant_model.specs.State.{State}
use Rattle.arena_core.specs.Stands.{StandsFor}
use Rattle.dump_lines.specs.Parts.{AppendsPart}
use Rattle.arena_script.specs.ScriptAnswers.{own_answers}
use Rattle.arena_script.specs.ScriptLines.{script_lines}
use Rattle.arena_script.proofs.scripts.take_all.Given as goal

-- whoever answers the lines that are left has answered all, and whoever answers a part of them a part of all
abbrev pub invariant-steps : goal.invariant-steps
invariant-steps g l = record {
  calls : AreCalls g.R.Source.called l.initial.lines.turns l.lines.turns l.initial.reader l.reader;
  answered :
      (first : State) → StandsFor l.initial.arena first →
      (now : State) × StandsFor l.arena now
      × (IsSome (g.R.Read.remaining l.initial.reader) →
      IsSome (g.R.Read.remaining l.reader)
      × ((after : Option (List ℕ)) →
      Appends (g.W.Write.contents l.writer) after (own_answers now (script_lines l.lines (g.R.Read.remaining l.reader))) →
      Appends (g.W.Write.contents l.initial.writer) after (own_answers first (script_lines l.initial.lines (g.R.Read.remaining l.initial.reader))))
      × ((after : Option (List ℕ)) →
      AppendsPart (g.W.Write.contents l.writer) after (own_answers now (script_lines l.lines (g.R.Read.remaining l.reader))) →
      AppendsPart (g.W.Write.contents l.initial.writer) after (own_answers first (script_lines l.initial.lines (g.R.Read.remaining l.initial.reader)))));
}

abbrev pub decreases-steps : goal.decreases-steps
decreases-steps g l = work_left l.lines
