use Rattle.std.proofs.Common.{sym, ap, ◌∙◌, arith}
use Rattle.std.proofs.lemmas.List.Elements.{All-push}
use Rattle.job_language.specs.Program.{IsInRange}
use Rattle.job_language.specs.declared.programs.TheConstants.{MAX_INSTRS}
use Rattle.job_json.specs.CanonicalText.{instr_then}
use Rattle.job_json.proofs.Listed.{continues_first, continues_next, continues_last}
use Rattle.job_json.proofs.canonical.numbers.Rest.instrs.Goals as goal

pub loop-init : goal.loop-init
loop-init c = record {
  text = rw c.in-Ok.ensures.items (continues_first instr_then _ _ c.in_ok-skip.ensures);
  each = rw c.in-Ok.ensures.items (λ k d within. absurd (omega arith));
}

pub loop-preserved : goal.loop-preserved
loop-preserved c =
    let so_far = c.loop.invariant in
    let here = c.in_ok-instr.ensures.text ∙ ap (instr_then c.in_ok-instr.instr) (sym (c.takes.ensures.left c.if-takes.false) ∙ c.in_ok-skip-2.ensures) in
    record {
      text = rw c.in-Ok-push.ensures.items (continues_next instr_then _ _ _ c.loop.instrs.items c.in_ok-instr.instr so_far.text here);
      each = rw c.in-Ok-push.ensures.items (All-push (IsInRange MAX_INSTRS) _ _ so_far.each c.in_ok-instr.ensures.in_range);
    }

pub returns-then-takes-clause-text : goal.returns-then-takes-clause-text
returns-then-takes-clause-text c =
    let here = c.in_ok-instr.ensures.text ∙ ap (instr_then c.in_ok-instr.instr) (c.takes.ensures.taken c.if-takes.true) in
    rw (c.shrink_to_fit.ensures.items, c.in-Ok-push.ensures.items) (continues_last instr_then _ _ _ c.loop.instrs.items c.in_ok-instr.instr c.loop.invariant.text here)

pub returns-then-takes-clause-in_range : goal.returns-then-takes-clause-in_range
returns-then-takes-clause-in_range c = rw (c.shrink_to_fit.ensures.items, c.in-Ok-push.ensures.items) (All-push (IsInRange MAX_INSTRS) _ _ c.loop.invariant.each c.in_ok-instr.ensures.in_range)
