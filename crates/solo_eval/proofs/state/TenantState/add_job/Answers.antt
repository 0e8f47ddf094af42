use Rattle.std.proofs.Common.{refl, arith}
use Rattle.tenant_model.proofs.Linked.{IsLinked-job}
use Rattle.solo_eval.specs.TenantState.{shown}
use Rattle.solo_eval.proofs.state.TenantState.add_job.Goals as goal

pub invariant_of-self-2 : goal.invariant_of-self-2
invariant_of-self-2 c =
    rw (c.in_ok-push.ensures.items, c.push-2.ensures.items, c.unwrap.ensures, c.reserve.ensures.items)
    (IsLinked-job (shown c.self.inside) _ _ c.self.invariant refl (omega (arith, c.len-2.ensures, c.self.ranges)))
