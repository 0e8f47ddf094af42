use Rattle.std.proofs.Common.{◌≡◌, rules, List, ℕ, [], ◌∷◌, ◌++◌, ap, ◌∙◌, Ok, refl, Err}
use Rattle.request_reader.specs.Lines.{Line}
use Rattle.arena_core.specs.Stands.{StandsFor}
use Rattle.dump_lines.proofs.Parts.{part_none}
use Rattle.arena_script.specs.ScriptAnswers.{line_taken, own_answers, told}
use Rattle.arena_script.specs.ScriptLines.{line_seen}
use Rattle.arena_script.specs.declared.inputs.Input.{Input}
use Rattle.arena_script.specs.declared.inputs.Input.TheVariants as input
use Rattle.request_reader.proofs.Calling.{calls_then}
use Rattle.arena_script.proofs.Answering.{next_is_line, text_end, text_step}
use Rattle.arena_script.proofs.Parts.{text_part_step, text_part_cut}
use Rattle.arena_script.proofs.Telling.{told_so}
use Rattle.arena_script.specs.declared.ends.ScriptEnd.TheVariants.{Device}
use Rattle.arena_script.proofs.Causes.{lost_with}
use Rattle.arena_script.proofs.scripts.take_all.Goals as goal

pub returns-in_default-clause-done : goal.returns-in_default-clause-done
returns-in_default-clause-done g c s stands known =
    let so_far = c.steps.invariant.answered s stands in
    let here = so_far.2 known in
    let ended : c.in_ok-input.input ≡ input.End = search rules in
    here.1 _ (text_end _ _ _ _ (own_answers so_far.0) _ refl ended (c.in_ok-input.ensures.lines here.0) (c.in_ok-input.ensures.end (ap (λ (i : Input). Ok i) ended)))

pub returns-in_err-input-clause-part : goal.returns-in_err-input-clause-part
returns-in_err-input-clause-part g c s stands known = ((c.steps.invariant.answered s stands).2 known).2 _ (part_none _ _)

pub returns-in_default-clause-part : goal.returns-in_default-clause-part
returns-in_default-clause-part g c s stands known = ((c.steps.invariant.answered s stands).2 known).2 _ (part_none _ _)

pub returns-in_err-answer-clause-part : goal.returns-in_err-answer-clause-part
returns-in_err-answer-clause-part g c s stands known = ((c.steps.invariant.answered s stands).2 known).2 _ (part_none _ _)

pub returns-in_err-put-clause-part : goal.returns-in_err-put-clause-part
returns-in_err-put-clause-part g c s stands known =
    let so_far = c.steps.invariant.answered s stands in
    let here = so_far.2 known in
    let it = line_seen c.in-Some.line in
    let taken = told_so so_far.0 (line_taken so_far.0 it) _ StandsFor _ (c.in_ok-answer.ensures.ok so_far.0 so_far.1) in
    let line = c.line.ensures.value ∙ ap (λ (t : List ℕ). t ++ 10 ∷ []) (c.told.ensures ∙ taken.0) in
    let lines = next_is_line _ _ _ _ c.in-Some.ensures.line (c.in_ok-input.ensures.lines here.0) in
    here.2 _ (text_part_cut _ _ _ _ _ _ (ap (λ (ls : List Line). own_answers so_far.0 ls) lines) line c.in_err-put.ensures.part)

pub steps-preserved : goal.steps-preserved
steps-preserved g c = record {
  calls = calls_then g.R.Source.called _ _ _ _ _ _ c.steps.invariant.calls c.in_ok-input.ensures.calls;
  answered =
      λ first stands.
      let so_far = c.steps.invariant.answered first stands in
      let it = line_seen c.in-Some.line in
      let taken = told_so so_far.0 (line_taken so_far.0 it) _ StandsFor _ (c.in_ok-answer.ensures.ok so_far.0 so_far.1) in
      let line = c.line.ensures.value ∙ ap (λ (t : List ℕ). t ++ 10 ∷ []) (c.told.ensures ∙ taken.0) in (
        (told so_far.0 (line_taken so_far.0 it)).1,
        taken.1,
        λ known.
            let here = so_far.2 known in
            let lines = next_is_line _ _ _ _ c.in-Some.ensures.line (c.in_ok-input.ensures.lines here.0) in (
              c.in_ok-input.ensures.known here.0,
              λ after others. here.1 after (text_step _ _ after _ _ _ _ (ap (λ (ls : List Line). own_answers so_far.0 ls) lines) line c.in_ok-put.ensures.ok others),
              λ after others. here.2 after (text_part_step _ _ after _ _ _ _ (ap (λ (ls : List Line). own_answers so_far.0 ls) lines) line c.in_ok-put.ensures.ok others),
            ),
      );
}

pub returns-in_err-input-clause-cause : goal.returns-in_err-input-clause-cause
returns-in_err-input-clause-cause g c =
    let calls = calls_then g.R.Source.called _ _ _ _ _ _ c.steps.invariant.calls c.next_input.ensures.calls in
    let lost : c.from_residual.result ≡ Err Device = search rules in
    lost_with _ _ _ _ _ _ _ _ lost calls c.in_err-input.ensures.cause
