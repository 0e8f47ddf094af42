use Rattle.std.proofs.Common.{◌≡◌, List, Option, Some, sym, ap, ◌∙◌, subst}
use Rattle.std.specs.Prelude.{slice_set}
use Rattle.place_lists.specs.Filing.{Filing, with_filed}
use Rattle.arena_rows.specs.HeldChanges.{new_entry}
use Rattle.arena_rows.specs.OpenRows.{list_for, AreFiled}
use Rattle.arena_rows.specs.declared.rows.OpenRow.{OpenRow}
use Rattle.arena_rows.proofs.RowsFiled.{set_filed}
use Rattle.arena_rows.proofs.open_rows.OpenRows.insert.Goals as goal

pub invariant_of-self : goal.invariant_of-self
invariant_of-self c =
    let i = c.self.inside in
    let place = c.insert-place.result in
    let entry : OpenRow = record (new_entry c.args.number c.args.source c.args.job c.args.made_on c.args.stage c.args.context) { groups = c.new.result } in
    let filed = set_filed i.table i.contexts i.filing i.doomed i.turned.items c.self.invariant.0 place (Some entry) c.insert-place.ensures.place in
    let is : c.file.new.filing ≡ with_filed i.filing place (list_for i.contexts (Some entry)) = c.file.ensures ∙ ap (with_filed i.filing place) c.list_for-list.ensures in
    let is_filed = subst (λ (f : Filing). AreFiled (slice_set i.table place (Some entry)) i.contexts f i.doomed i.turned.items) (sym is) filed in
    (subst (λ (t : List (Option OpenRow)). AreFiled t i.contexts c.file.new.filing i.doomed i.turned.items) (sym c.insert-place.ensures.put) is_filed, c.self.invariant.1)
