use Rattle.tenant_model.proofs.Linked.{IsLinked-push}
use Rattle.tenant_model.specs.Walks.{maker_of}
use Rattle.solo_eval.specs.TenantState.{shown}
use Rattle.solo_eval.proofs.Present.{within}
use Rattle.solo_eval.proofs.state.TenantState.add_row.Goals as goal

pub invariant_of-self-2 : goal.invariant_of-self-2
invariant_of-self-2 c =
    let r = c.requires in
    let job = rw (← c.self.view_is) at r.job in
    rw c.in_ok-push.ensures.items (IsLinked-push (shown c.self.inside) _ c.self.invariant (within (shown c.self.inside).rows (maker_of c.args.kind) (rw (← c.self.view_is) at r.maker))
    (job.from, job.to))
