use Rattle.std.proofs.Common.{◌≡◌, ◌≤◌, length}
use Rattle.std.specs.List.{list_any}
use Rattle.tenant_model.specs.State.{row}
use Rattle.tenant_model.specs.Walks.{is_group_cancelled, chain}
use Rattle.solo_eval.proofs.chains.has_cancelled_group.Given as goal

abbrev pub invariant-loop-kind : goal.invariant-loop-kind
invariant-loop-kind l = record {
  from : 1 ≤ l.at;
  to : l.at ≤ length l.rows;
  rest : list_any (λ m. is_group_cancelled l.rows (row l.rows m).kind) (chain l.rows l.at) ≡ list_any (λ m. is_group_cancelled l.rows (row l.rows m).kind) (chain l.rows l.number);
}

abbrev pub decreases-loop-kind : goal.decreases-loop-kind
decreases-loop-kind l = l.at
