use Rattle.std.proofs.Common.{List, ℕ, Option, drop, map}
use Rattle.std.specs.Io.KnownBytes.{Appends}
use Rattle.dump_lines.specs.Parts.{AppendsPart}
use Rattle.job_outcomes.specs.Outcomes.{outcome_seen, outcomes_text}
use Rattle.job_outcomes.proofs.outcomes.write_outcomes.Given as goal

-- whoever writes the lines that are left, or a part of them, has written all, or a part
abbrev pub invariant-loop-outcome : goal.invariant-loop-outcome
invariant-loop-outcome g l = record {
  written : (after : Option (List ℕ)) →
      Appends (g.W.Write.contents l.writer) after (outcomes_text (map outcome_seen (drop l.outcome-index l.held))) →
      Appends (g.W.Write.contents l.initial.writer) after (outcomes_text (map outcome_seen l.held));
  part : (after : Option (List ℕ)) →
      AppendsPart (g.W.Write.contents l.writer) after (outcomes_text (map outcome_seen (drop l.outcome-index l.held))) →
      AppendsPart (g.W.Write.contents l.initial.writer) after (outcomes_text (map outcome_seen l.held));
}
