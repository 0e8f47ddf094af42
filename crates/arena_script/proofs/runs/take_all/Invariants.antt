use Rattle.std.proofs.Common.{ℕ, List, Option, IsSome}
use Rattle.request_reader.specs.Calls.{AreCalls}
use Rattle.request_reader.specs.Reading.{work_left}
use Rattle.world_model.specs.World.{World}
use Rattle.world_script.specs.Knowing.{Knows}
use Rattle.arena_script.specs.Answered.{AnswersAll, AnswersPart}
use Rattle.arena_script.specs.RunAnswers.{TellsOutcome}
use Rattle.arena_script.specs.ScriptLines.{script_lines}
use Rattle.arena_script.proofs.runs.take_all.Given as goal

-- whoever answers the lines that are left has answered all, and whoever answers a part of them a part of all
abbrev pub invariant-steps : goal.invariant-steps
invariant-steps g l = record {
  calls : AreCalls g.R.Source.called l.initial.lines.turns l.lines.turns l.initial.reader l.reader;
  answered :
      (names : List (List ℕ)) (first : World) → Knows g.A.TenantArena.stands_for names first l.initial.world →
      (now : World) × Knows g.A.TenantArena.stands_for names now l.world
      × (IsSome (g.R.Read.remaining l.initial.reader) →
      IsSome (g.R.Read.remaining l.reader)
      × ((after : Option (List ℕ)) (final : World) →
      AnswersAll (TellsOutcome names) (script_lines l.lines (g.R.Read.remaining l.reader)) now (g.W.Write.contents l.writer) after final →
      AnswersAll (TellsOutcome names) (script_lines l.initial.lines (g.R.Read.remaining l.initial.reader)) first (g.W.Write.contents l.initial.writer) after final)
      × ((after : Option (List ℕ)) →
      AnswersPart (TellsOutcome names) (script_lines l.lines (g.R.Read.remaining l.reader)) now (g.W.Write.contents l.writer) after →
      AnswersPart (TellsOutcome names) (script_lines l.initial.lines (g.R.Read.remaining l.initial.reader)) first (g.W.Write.contents l.initial.writer) after));
}

abbrev pub decreases-steps : goal.decreases-steps
decreases-steps g l = work_left l.lines
