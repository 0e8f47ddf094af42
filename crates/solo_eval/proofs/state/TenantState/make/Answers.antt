use Rattle.std.proofs.Common.{◌≡◌, false, sym, ap, ◌∙◌}
use Rattle.tenant_model.specs.declared.rows.Row.{Row}
use Rattle.tenant_model.specs.State.{row}
use Rattle.tenant_model.specs.Advance.{with_fuel_paid}
use Rattle.tenant_model.specs.Changes.{add_row, is_row_limit_met, new_row, finish_step, with_frame}
use Rattle.tenant_model.proofs.Added.{add_row-first}
use Rattle.solo_eval.proofs.state.TenantState.make.Goals as goal

pub returns-clause-ok : goal.returns-clause-ok
returns-clause-ok c =
    let s = c.args.self.now in
    let n = c.args.number in
    let cost = c.args.cost in
    let r = new_row c.args.made.kind (row s.rows n).job c.args.made.made_on c.args.made.frame c.args.made.phase in
    let f = c.args.frame in
    let limit : is_row_limit_met s ≡ false = sym c.is_row_limit_met.ensures ∙ c.if-is_row_limit_met.false in
    let added : c.add_row.new.self ≡ add_row s r =
    c.in_ok-add_row.ensures.ok ∙ ap (λ (q : Row). add_row s (new_row c.args.made.kind q.job c.args.made.made_on c.args.made.frame c.args.made.phase)) c.row-job.ensures.value in
    let moved : c.set_frame.new.self ≡ add_row (with_frame (with_fuel_paid s n cost) n f) r =
    c.set_frame.ensures ∙ ap (λ u. with_frame u n f) (c.pay-2.ensures ∙ ap (λ u. with_fuel_paid u n cost) added) ∙ add_row-first s n cost r c.requires.row.to f in
    rw limit (ap (finish_step c.args.slot) (sym moved) ∙ c.finish_step.ensures)
