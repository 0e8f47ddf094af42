use Rattle.std.proofs.Common.{◌≡◌, ◌+◌, ◌≤◌, drop}
use Rattle.std.specs.Prelude.{count_by, not}
use Rattle.tenant_model.specs.declared.works.Work.{Work}
use Rattle.solo_eval.proofs.asks.count_current.Given as goal

abbrev pub invariant-loop-work : goal.invariant-loop-work
invariant-loop-work l = record {
  few : l.count ≤ l.work-index;
  rest : l.count + count_by (λ (w : Work). not w.retired) (drop l.work-index l.jobs) ≡ count_by (λ (w : Work). not w.retired) l.jobs;
}
