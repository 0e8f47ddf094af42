use Rattle.std.proofs.Common.{◌≡◌, rules, List, ℕ, [], ◌∷◌, ◌++◌, ap, ◌∙◌, Ok, refl, Err}
use Rattle.world_script.specs.Takes.{told}
use Rattle.arena_script.specs.RunAnswers.{TellsOutcome}
use Rattle.arena_script.specs.declared.inputs.Input.{Input}
use Rattle.arena_script.specs.declared.inputs.Input.TheVariants as input
use Rattle.request_reader.proofs.Calling.{calls_then}
use Rattle.arena_script.proofs.Answering.{answers_step, answers_end}
use Rattle.arena_script.proofs.Parts.{answers_part_none, answers_part_step, answers_part_cut}
use Rattle.arena_script.proofs.Running.{tells_all}
use Rattle.arena_script.specs.declared.ends.ScriptEnd.TheVariants.{Device}
use Rattle.arena_script.proofs.Causes.{lost_with}
use Rattle.arena_script.proofs.runs.take_all.Goals as goal

pub returns-in_default-clause-done : goal.returns-in_default-clause-done
returns-in_default-clause-done g c names w knows known =
    let so_far = c.steps.invariant.answered names w knows in
    let here = so_far.2 known in
    let ended : c.in_ok-input.input ≡ input.End = search rules in
    (so_far.0, here.1 _ _ (answers_end (TellsOutcome names) _ _ _ _ _ _ ended (c.in_ok-input.ensures.lines here.0) (c.in_ok-input.ensures.end (ap (λ (i : Input). Ok i) ended))))

pub returns-in_err-input-clause-part : goal.returns-in_err-input-clause-part
returns-in_err-input-clause-part g c names w knows known = ((c.steps.invariant.answered names w knows).2 known).2 _ (answers_part_none _ (tells_all names) _ _ _)

pub returns-in_default-clause-part : goal.returns-in_default-clause-part
returns-in_default-clause-part g c names w knows known = ((c.steps.invariant.answered names w knows).2 known).2 _ (answers_part_none _ (tells_all names) _ _ _)

pub returns-in_err-outcome-clause-part : goal.returns-in_err-outcome-clause-part
returns-in_err-outcome-clause-part g c names w knows known = ((c.steps.invariant.answered names w knows).2 known).2 _ (answers_part_none _ (tells_all names) _ _ _)

pub returns-in_err-put-clause-part : goal.returns-in_err-put-clause-part
returns-in_err-put-clause-part g c names w knows known =
    let so_far = c.steps.invariant.answered names w knows in
    let here = so_far.2 known in
    let after = c.in_ok-outcome.ensures names so_far.0 so_far.1 in
    let said : c.told.result ≡ told names c.in_ok-outcome.outcome = c.told.ensures ∙ ap (λ (ns : List (List ℕ)). told ns c.in_ok-outcome.outcome) after.1.1.names_are in
    here.2 _
    (answers_part_cut (TellsOutcome names) (tells_all names) _ _ _ _ _ _ _ _ c.in-Some.ensures.line (c.in_ok-input.ensures.lines here.0) (c.in_ok-outcome.outcome, after.1.0, refl)
    (c.line.ensures.value ∙ ap (λ (t : List ℕ). t ++ 10 ∷ []) said) _ _ c.in_err-put.ensures.part)

pub steps-preserved : goal.steps-preserved
steps-preserved g c = record {
  calls = calls_then g.R.Source.called _ _ _ _ _ _ c.steps.invariant.calls c.in_ok-input.ensures.calls;
  answered =
      λ names first knows.
      let so_far = c.steps.invariant.answered names first knows in
      let next = c.in_ok-outcome.ensures names so_far.0 so_far.1 in
      let said : c.told.result ≡ told names c.in_ok-outcome.outcome = c.told.ensures ∙ ap (λ (ns : List (List ℕ)). told ns c.in_ok-outcome.outcome) next.1.1.names_are in
      let line = c.line.ensures.value ∙ ap (λ (t : List ℕ). t ++ 10 ∷ []) said in (
        next.0,
        next.1.1,
        λ known. let here = so_far.2 known in (
          c.in_ok-input.ensures.known here.0,
          λ after final others. here.1 after final
              (answers_step (TellsOutcome names) _ _ _ _ _ _ _ _ _ _ _ _ c.in-Some.ensures.line (c.in_ok-input.ensures.lines here.0) (c.in_ok-outcome.outcome, next.1.0, refl) line
              c.in_ok-put.ensures.ok others),
          λ after others. here.2 after
              (answers_part_step (TellsOutcome names) (tells_all names) _ _ _ _ _ _ _ _ c.in-Some.ensures.line (c.in_ok-input.ensures.lines here.0) (c.in_ok-outcome.outcome, next.1.0, refl) line _ _
              after c.in_ok-put.ensures.ok others),
        ),
      );
}

pub returns-in_err-input-clause-cause : goal.returns-in_err-input-clause-cause
returns-in_err-input-clause-cause g c =
    let calls = calls_then g.R.Source.called _ _ _ _ _ _ c.steps.invariant.calls c.next_input.ensures.calls in
    let lost : c.from_residual.result ≡ Err Device = search rules in
    lost_with _ _ _ _ _ _ _ _ lost calls c.in_err-input.ensures.cause
