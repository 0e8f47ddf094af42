use Rattle.std.proofs.Common.{◌≡◌, get_or, ap, ◌∙◌, arith}
use Rattle.std.specs.Prelude.{slice_set}
use Rattle.tenant_model.specs.Asks.{retired_work}
use Rattle.solo_eval.proofs.Mapped.{mapped-next, mapped-more}
use Rattle.solo_eval.proofs.state.jobs.retire_jobs.Goals as goal

pub loop-work-preserved : goal.loop-work-preserved
loop-work-preserved c =
    let xs = c.args.jobs.now in
    let i = c.loop-work.work-index in
    let x = c.work-item.result in
    let item : get_or c.loop-work.jobs i x ≡ get_or xs i x = rw c.loop-work.invariant (mapped-next retired_work xs i (omega arith) x) in
    ap (λ y. slice_set c.loop-work.jobs i (retired_work y)) item ∙ ap (λ jobs. slice_set jobs i (retired_work (get_or xs i x))) c.loop-work.invariant ∙ mapped-more retired_work xs i (omega arith) x
