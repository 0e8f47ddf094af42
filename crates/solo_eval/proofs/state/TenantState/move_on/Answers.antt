use Rattle.std.proofs.Common.{◌≡◌, sym, ap, ◌∙◌}
use Rattle.tenant_model.specs.Advance.{with_fuel_paid}
use Rattle.tenant_model.specs.Changes.{finish_step, with_frame}
use Rattle.solo_eval.proofs.state.TenantState.move_on.Goals as goal

pub returns : goal.returns
returns c =
    let s = c.args.self.now in
    let n = c.args.number in
    let f = c.args.frame in
    let moved : c.set_frame.new.self ≡ with_frame (with_fuel_paid s n c.args.cost) n f = c.set_frame.ensures ∙ ap (λ u. with_frame u n f) c.pay.ensures in
    rw c.requires.fuel (ap (finish_step c.args.slot) (sym moved) ∙ c.finish_step.ensures)
