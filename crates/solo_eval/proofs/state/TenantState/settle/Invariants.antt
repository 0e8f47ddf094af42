use Rattle.tenant_model.proofs.Settling.{SettledUpTo}
use Rattle.solo_eval.proofs.state.TenantState.settle.Given as goal

abbrev pub invariant-loop-place : goal.invariant-loop-place
invariant-loop-place l = SettledUpTo l.fn.self l.self l.place
