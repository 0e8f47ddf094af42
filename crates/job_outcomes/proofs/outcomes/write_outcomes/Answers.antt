use Rattle.std.proofs.Common.{◌+◌, List, drop, get_or, map, sym, subst}
use Rattle.std.proofs.KnownBytes.{Appends-trans}
use Rattle.std.proofs.lemmas.List.{drop_more}
use Rattle.std.specs.Io.KnownBytes.{Appends}
use Rattle.dump_lines.specs.Parts.{AppendsPart}
use Rattle.dump_lines.proofs.Parts.{part_more, part_then}
use Rattle.job_language.specs.declared.answers.Status.TheVariants.{Running}
use Rattle.job_outcomes.specs.Outcomes.{outcome_seen, outcome_text, outcomes_text}
use Rattle.job_outcomes.specs.declared.outcomes.JobOutcome.{JobOutcome}
use Rattle.job_outcomes.proofs.outcomes.write_outcomes.Goals as goal

pub loop-outcome-preserved : goal.loop-outcome-preserved
loop-outcome-preserved g c =
    let os = c.args.held.now in
    let i = c.loop-outcome.outcome-index in
    let d : JobOutcome = record { job = 0; status = Running } in
    let rest = outcomes_text (map outcome_seen (drop (i + 1) os)) in
    let first = outcome_text (outcome_seen (get_or os i d)) in
    let parted = sym (drop_more os i d c.loop-outcome-test.true) in
    record {
      written = λ after more. c.loop-outcome.invariant.written after
          (subst (λ (l : List JobOutcome). Appends (g.W.Write.contents c.loop-outcome.writer) after (outcomes_text (map outcome_seen l))) parted
          (Appends-trans _ _ after first rest c.in_ok-write_outcome.ensures.written more));
      part = λ after more. c.loop-outcome.invariant.part after
          (subst (λ (l : List JobOutcome). AppendsPart (g.W.Write.contents c.loop-outcome.writer) after (outcomes_text (map outcome_seen l))) parted
          (part_then _ _ after first rest c.in_ok-write_outcome.ensures.written more));
    }

pub returns-in_err-write_outcome-clause-part : goal.returns-in_err-write_outcome-clause-part
returns-in_err-write_outcome-clause-part g c =
    let os = c.args.held.now in
    let i = c.loop-outcome.outcome-index in
    let d : JobOutcome = record { job = 0; status = Running } in
    let after = g.W.Write.contents c.write_outcome.new.writer in
    c.loop-outcome.invariant.part after
    (subst (λ (l : List JobOutcome). AppendsPart (g.W.Write.contents c.loop-outcome.writer) after (outcomes_text (map outcome_seen l))) (sym (drop_more os i d c.loop-outcome-test.true))
    (part_more _ after (outcome_text (outcome_seen (get_or os i d))) (outcomes_text (map outcome_seen (drop (i + 1) os))) c.write_outcome.ensures.part))
