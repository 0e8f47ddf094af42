use Rattle.tenant_model.proofs.Changed.{with_at_number-from}
use Rattle.tenant_model.proofs.Linked.{IsLinked-set}
use Rattle.solo_eval.specs.TenantState.{shown}
use Rattle.solo_eval.proofs.state.TenantState.set_row.Goals as goal

pub invariant_of-self : goal.invariant_of-self
invariant_of-self c =
    let r = c.requires in
    let s = shown c.self.inside in
    let there = rw (← c.self.view_is) at r.row in
    let set = with_at_number-from s.rows c.args.number c.args.changed there.from in
    rw set at (IsLinked-set s c.args.number c.args.changed there.from there.to (rw (← c.self.view_is) at r.kind) (rw (← c.self.view_is) at r.job) c.self.invariant)
