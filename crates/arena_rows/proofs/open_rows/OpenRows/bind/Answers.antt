use Rattle.std.proofs.Common.{◌≡◌, Some, length, sym, ap, ◌∙◌, subst, arith, length-set}
use Rattle.cancel_context.proofs.Chains.{IsHeld-within}
use Rattle.arena_rows.specs.OpenRows.{AreFiled}
use Rattle.arena_rows.proofs.RowsFiled.{bound_filed}
use Rattle.arena_rows.proofs.open_rows.OpenRows.bind.Goals as goal

pub invariant_of-self : goal.invariant_of-self
invariant_of-self c =
    let i = c.self.inside in
    let made = c.bind-context.ensures in
    let after = c.bind-context.new.self in
    let filing = c.file_all.ensures in
    let long : length after ≡ length i.contexts = ap length made.bound ∙ length-set i.contexts c.bind-context.result _ in
    let filed = bound_filed i.table i.contexts i.filing i.doomed i.turned.items c.self.invariant.0 after c.file_all.new.self long made.forest filing.places filing.lists c.bind-context.result
    (IsHeld-within after c.bind-context.result made.held) made.others (λ p e. filing.moved p (e ∙ ap Some (sym c.index.ensures)))
    (λ p ne. filing.others p (λ e. ne (e ∙ ap Some c.index.ensures))) in
    (subst (AreFiled i.table after c.file_all.new.self i.doomed) (sym c.self.invariant.0.none_turned) filed, omega (arith, long, c.self.invariant.1))
