use Rattle.std.proofs.Common.{sym, ap, ◌∙◌, arith}
use Rattle.std.proofs.lemmas.List.Elements.{All-push}
use Rattle.job_language.specs.Program.{IsValidProc}
use Rattle.job_json.specs.CanonicalText.{proc_then}
use Rattle.job_json.proofs.Listed.{continues_first, continues_next, continues_last}
use Rattle.job_json.proofs.canonical.numbers.Rest.procs.Goals as goal

pub loop-init : goal.loop-init
loop-init c = record {
  text = rw c.new-procs.ensures.items (continues_first proc_then _ _ c.in_ok-skip.ensures);
  each = rw c.new-procs.ensures.items (λ k d within. absurd (omega arith));
}

pub loop-preserved : goal.loop-preserved
loop-preserved c =
    let so_far = c.loop.invariant in
    let here = c.in_ok-proc.ensures.text ∙ ap (proc_then c.in_ok-proc.proc) (sym (c.takes.ensures.left c.if-takes.false) ∙ c.in_ok-skip-2.ensures) in
    record {
      text = rw c.in-Ok.ensures.items (continues_next proc_then _ _ _ c.loop.procs.items c.in_ok-proc.proc so_far.text here);
      each = rw c.in-Ok.ensures.items (All-push (IsValidProc) _ _ so_far.each c.in_ok-proc.ensures.valid);
    }

pub returns-then-takes-clause-text : goal.returns-then-takes-clause-text
returns-then-takes-clause-text c =
    let here = c.in_ok-proc.ensures.text ∙ ap (proc_then c.in_ok-proc.proc) (c.takes.ensures.taken c.if-takes.true) in
    rw c.in-Ok.ensures.items (continues_last proc_then _ _ _ c.loop.procs.items c.in_ok-proc.proc c.loop.invariant.text here)

pub returns-then-takes-clause-valid : goal.returns-then-takes-clause-valid
returns-then-takes-clause-valid c = rw c.in-Ok.ensures.items (All-push (IsValidProc) _ _ c.loop.invariant.each c.in_ok-proc.ensures.valid)
