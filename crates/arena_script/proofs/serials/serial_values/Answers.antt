use Rattle.std.proofs.Common.{rules, List, ℕ, [], ◌∷◌, ◌++◌, ap, ◌∙◌, ◌≡◌, Err}
use Rattle.request_reader.proofs.Calling.{calls_then}
use Rattle.dump_lines.proofs.Parts.{part_none}
use Rattle.arena_script.proofs.Answering.{serial_step}
use Rattle.arena_script.proofs.Parts.{serial_part_step, serial_part_cut}
use Rattle.request_reader.specs.declared.turns.TheConstants.{MAX_TURNS}
use Rattle.arena_script.specs.declared.ends.ScriptEnd.TheVariants.{Device}
use Rattle.arena_script.proofs.Causes.{lost_with}
use Rattle.arena_script.proofs.serials.serial_values.Goals as goal

pub returns-in_err-put-clause-part : goal.returns-in_err-put-clause-part
returns-in_err-put-clause-part g c known =
    let so_far = c.loop-lines.invariant.answered known in
    so_far.2 _
    (serial_part_cut _ _ _ _ _ _ c.in-Some.ensures.line (c.in_ok-input.ensures.lines so_far.0) c.in_ok-answer.ensures.ok
    (c.line.ensures.value ∙ ap (λ (t : List ℕ). t ++ 10 ∷ []) c.serial_line.ensures) _ _ c.in_err-put.ensures.part)

pub loop-lines-preserved : goal.loop-lines-preserved
loop-lines-preserved g c = record {
  calls = calls_then g.R.Source.called _ _ _ _ _ _ c.loop-lines.invariant.calls c.in_ok-input.ensures.calls;
  answered =
      λ known. let so_far = c.loop-lines.invariant.answered known in (
        c.in_ok-input.ensures.known so_far.0,
        λ after others. so_far.1 after
            (serial_step _ _ _ _ _ _ _ _ _ c.in-Some.ensures.line (c.in_ok-input.ensures.lines so_far.0) c.in_ok-answer.ensures.ok
            (c.line.ensures.value ∙ ap (λ (t : List ℕ). t ++ 10 ∷ []) c.serial_line.ensures) c.in_ok-put.ensures.ok others),
        λ after others. so_far.2 after
            (serial_part_step _ _ _ _ _ _ c.in-Some.ensures.line (c.in_ok-input.ensures.lines so_far.0) c.in_ok-answer.ensures.ok
            (c.line.ensures.value ∙ ap (λ (t : List ℕ). t ++ 10 ∷ []) c.serial_line.ensures) _ _ after c.in_ok-put.ensures.ok others),
      );
}

pub returns-in_err-input-clause-cause : goal.returns-in_err-input-clause-cause
returns-in_err-input-clause-cause g c =
    let before = rw c.in_ok-lines.ensures at c.loop-lines.invariant.calls in
    let calls = calls_then g.R.Source.called MAX_TURNS _ _ _ _ _ before c.next_input.ensures.calls in
    let lost : c.from_residual-in_err-input.result ≡ Err Device = search rules in
    lost_with _ _ _ _ _ _ _ _ lost calls c.in_err-input.ensures.cause

pub returns-in_err-input-clause-part : goal.returns-in_err-input-clause-part
returns-in_err-input-clause-part g c known = (c.loop-lines.invariant.answered known).2 _ (part_none _ _)

pub returns-in_err-answer-clause-part : goal.returns-in_err-answer-clause-part
returns-in_err-answer-clause-part g c known = (c.loop-lines.invariant.answered known).2 _ (part_none _ _)
