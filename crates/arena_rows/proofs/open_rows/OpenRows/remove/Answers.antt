use Rattle.std.proofs.Common.{◌<◌, List, Option, None, length, sym, subst}
use Rattle.std.specs.Prelude.{slice_set}
use Rattle.place_lists.specs.Filing.{Filing}
use Rattle.arena_rows.specs.OpenRows.{OpenRows, AreFiled}
use Rattle.arena_rows.specs.declared.rows.OpenRow.{OpenRow}
use Rattle.arena_rows.proofs.RowsFiled.{set_filed}
use Rattle.arena_rows.proofs.open_rows.OpenRows.remove.Goals as goal

pub invariant_of-self : goal.invariant_of-self
invariant_of-self c =
    let i = c.self.inside in
    let within : c.args.place < length i.table = subst (λ (r : OpenRows). c.args.place < length r.table) (sym c.self.view_is) c.requires.place in
    let filed = set_filed i.table i.contexts i.filing i.doomed i.turned.items c.self.invariant.0 c.args.place None within in
    let unfiled = subst (λ (f : Filing). AreFiled (slice_set i.table c.args.place None) i.contexts f i.doomed i.turned.items) (sym c.unfile.ensures) filed in
    (subst (λ (t : List (Option OpenRow)). AreFiled t i.contexts c.unfile.new.self i.doomed i.turned.items) (sym c.remove.ensures.rest) unfiled, c.self.invariant.1)
