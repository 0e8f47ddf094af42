use Rattle.std.proofs.Common.{◌≡◌, ◌==◌, ◌≤◌, length}
use Rattle.std.specs.List.{list_any}
use Rattle.tenant_model.specs.Walks.{is_within, chain}
use Rattle.solo_eval.proofs.chains.is_within.Given as goal

abbrev pub invariant-loop-at : goal.invariant-loop-at
invariant-loop-at l = record {
  from : 1 ≤ l.at;
  to : l.at ≤ length l.rows;
  rest : list_any (λ m. m == l.region) (chain l.rows l.at) ≡ is_within l.rows l.number l.region;
}

abbrev pub decreases-loop-at : goal.decreases-loop-at
decreases-loop-at l = l.at
