use Rattle.std.proofs.Common.{◌<◌, Some, length, sym, subst}
use Rattle.std.specs.Prelude.{slice_set}
use Rattle.place_lists.specs.Filing.{Filing}
use Rattle.arena_rows.specs.OpenRows.{OpenRows, AreFiled}
use Rattle.arena_rows.specs.declared.rows.OpenRow.{OpenRow}
use Rattle.arena_rows.specs.declared.rows.Stage.TheVariants as stage
use Rattle.arena_rows.proofs.RowsFiled.{set_filed, changed_rows}
use Rattle.arena_rows.proofs.open_rows.OpenRows.start.Goals as goal

pub invariant_of-self : goal.invariant_of-self
invariant_of-self c =
    let i = c.self.inside in
    let live : OpenRow = record c.at_mut-entry.result.now { stage = stage.Live c.args.slot c.args.height } in
    let within : c.args.place < length i.table = subst (λ (r : OpenRows). c.args.place < length r.table) (sym c.self.view_is) c.requires.place in
    let filed = set_filed i.table i.contexts i.filing i.doomed i.turned.items c.self.invariant.0 c.args.place (Some live) within in
    (subst (λ (f : Filing). AreFiled (slice_set i.table c.args.place (Some live)) i.contexts f i.doomed i.turned.items) (sym c.unfile.ensures) filed, c.self.invariant.1)

pub returns : goal.returns
returns c =
    let i = c.self.inside in
    changed_rows c.args.self.now i.table i.contexts c.args.place (λ e. record e { stage = stage.Live c.args.slot c.args.height }) c.at_mut-entry.result.now c.self.view_is c.at_mut-entry.ensures.value
