use Rattle.std.proofs.Common.{◌≡◌, sym, ap, ◌∙◌}
use Rattle.job_step.specs.declared.frames.Frame.{Frame}
use Rattle.job_step.specs.declared.runs.Run.{Run}
use Rattle.job_step.proofs.RunSteps.{run_for-start}
use Rattle.job_step.proofs.segments.segment_of.Goals as goal

pub invariant_of-result : goal.invariant_of-result
invariant_of-result c =
    let t = c.args.top in
    let r = c.run_private-run in
    let start : t.frame ≡ r.result.start = sym (run_for-start 1000 t.program t.slot t.width t.frame 0 t.frame) ∙ ap (λ (x : Run). x.start) (sym r.ensures.run) in
    record {
      run = ap (λ (f : Frame). record { start = f; end = r.result.end; count = r.result.count; stop = r.result.stop }) start ∙ r.ensures.run;
      next = r.ensures.next;
    }
