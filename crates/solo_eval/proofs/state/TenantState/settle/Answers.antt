use Rattle.std.proofs.Common.{◌≡◌, arith, ap, length}
use Rattle.tenant_model.proofs.Settling.{SettledUpTo-more, settle-from}
use Rattle.solo_eval.proofs.state.TenantState.settle.Goals as goal

pub loop-place-preserved : goal.loop-place-preserved
loop-place-preserved c = rw c.settle_row.ensures
    (SettledUpTo-more c.args.self.now c.loop-place.self c.loop-place.place c.loop-place.invariant (omega (arith, ap length c.rows-place-end.ensures.value)))

pub returns : goal.returns
returns c =
    let all : c.loop-place.place ≡ length c.args.self.now.rows = omega (arith, ap length c.rows-place-end.ensures.value) in
    settle-from c.args.self.now c.loop-place.self (rw (← all) c.loop-place.invariant)
