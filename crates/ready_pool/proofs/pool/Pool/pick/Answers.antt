use Rattle.std.proofs.Common.{◌≡◌, Some, None, sym, ◌∙◌, ap, subst}
use Rattle.std.specs.Prelude.{Any, IfSome}
use Rattle.ready_pool.specs.declared.pool.Waiting.{Waiting}
use Rattle.ready_pool.specs.Ready.{Ready, pick}
use Rattle.ready_pool.proofs.Picks.{picked_row_waits}
use Rattle.ready_pool.proofs.Chosen.{outside}
use Rattle.ready_pool.proofs.pool.Pool.pick.Goals as goal

pub returns-in-None-default-clause-value : goal.returns-in-None-default-clause-value
returns-in-None-default-clause-value c =
    let pool = c.args.self.now in
    let table = c.args.regions.now in
    c.pick_outside.ensures ∙ outside pool table c.args.slot ∙ ap (pick pool table c.args.slot) (sym c.in-None-default.is-0)

pub returns-in-None-default-clause-there : goal.returns-in-None-default-clause-there
returns-in-None-default-clause-there c =
    let pool = c.args.self.now in
    let table = c.args.regions.now in
    let value : c.pick_outside.result ≡ pick pool table c.args.slot None = c.pick_outside.ensures ∙ outside pool table c.args.slot in
    subst (λ result. IfSome result (λ row. Any (λ (w : Waiting). w.row ≡ row) pool.rows)) (sym value) (picked_row_waits pool table c.args.slot None)

pub returns-in-Some-Exact-clause-there : goal.returns-in-Some-Exact-clause-there
returns-in-Some-Exact-clause-there c =
    let pool = c.args.self.now in
    let table = c.args.regions.now in
    let value = c.pick_in.ensures table (ap (λ (p : Ready). p.isolation) (sym c.self.view_is) ∙ c.in-Some-Exact.is-1) in
    subst (λ result. IfSome result (λ row. Any (λ (w : Waiting). w.row ≡ row) pool.rows)) (sym value) (picked_row_waits pool table c.args.slot (Some c.in-Some-Exact.region))

pub returns-in-Some-Within-clause-there : goal.returns-in-Some-Within-clause-there
returns-in-Some-Within-clause-there c =
    let pool = c.args.self.now in
    let table = c.args.regions.now in
    let value = c.pick_within.ensures (ap (λ (p : Ready). p.isolation) (sym c.self.view_is) ∙ c.in-Some-Within.is-1) in
    subst (λ result. IfSome result (λ row. Any (λ (w : Waiting). w.row ≡ row) pool.rows)) (sym value) (picked_row_waits pool table c.args.slot (Some c.in-Some-Within.region))
