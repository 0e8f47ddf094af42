use Rattle.std.proofs.Common.{◌<◌, ◌∙◌, ℕ, ap, length, refl, sym, subst}
use Rattle.arena_rows.specs.OpenRows.{OpenRows, changed_at}
use Rattle.arena_rows.specs.declared.rows.OpenRow.{OpenRow}
use Rattle.arena_rows.specs.HeldChanges.{with_group}
use Rattle.arena_rows.proofs.RowsFiled.{same_filed, changed_rows}
use Rattle.arena_rows.proofs.open_rows.OpenRows.set_group_context.Goals as goal

pub invariant_of-self : goal.invariant_of-self
invariant_of-self c =
    let i = c.self.inside in
    let changed : OpenRow = with_group c.index.result c.args.context c.at_mut-entry.result.now in
    let within : c.args.place < length i.table = subst (λ (r : OpenRows). c.args.place < length r.table) (sym c.self.view_is) c.requires.place in
    (same_filed i.table i.contexts i.filing i.doomed i.turned.items c.self.invariant.0 c.args.place c.at_mut-entry.result.now changed within c.at_mut-entry.ensures.value refl refl, c.self.invariant.1)

pub returns : goal.returns
returns c =
    let i = c.self.inside in
    let given : ℕ → OpenRows = λ group. record c.args.self.now { table = changed_at c.args.self.now.table c.args.place (with_group group c.args.context) } in
    changed_rows c.args.self.now i.table i.contexts c.args.place (with_group c.index.result c.args.context) c.at_mut-entry.result.now c.self.view_is c.at_mut-entry.ensures.value ∙
    ap given c.index.ensures.value
