use Rattle.std.proofs.Common.{◌≡◌, ◌≤◌, length}
use Rattle.std.specs.Prelude.{find}
use Rattle.tenant_model.specs.State.{row}
use Rattle.tenant_model.specs.Walks.{is_region, region_of, chain}
use Rattle.solo_eval.proofs.chains.region_of.Given as goal

abbrev pub invariant-loop-kind : goal.invariant-loop-kind
invariant-loop-kind l = record {
  from : 1 ≤ l.at;
  to : l.at ≤ length l.rows;
  rest : find (λ m. is_region (row l.rows m).kind) (chain l.rows l.at) ≡ region_of l.rows l.number;
}

abbrev pub decreases-loop-kind : goal.decreases-loop-kind
decreases-loop-kind l = l.at
