use Rattle.std.proofs.Common.{◌<◌, ◌∙◌, Some, length, refl, sym, subst, ap}
use Rattle.std.specs.Prelude.{slice_set}
use Rattle.arena_rows.specs.OpenRows.{OpenRows, AreFiled}
use Rattle.arena_rows.specs.declared.rows.OpenRow.{OpenRow}
use Rattle.arena_rows.specs.HeldChanges.{with_member}
use Rattle.arena_rows.proofs.RowsFiled.{same_filed, changed_rows}
use Rattle.arena_rows.proofs.open_rows.OpenRows.add_member.Goals as goal

pub invariant_of-self : goal.invariant_of-self
invariant_of-self c =
    let i = c.self.inside in
    let changed : OpenRow = with_member c.args.number c.at_mut.result.now in
    let within : c.args.place < length i.table = subst (λ (r : OpenRows). c.args.place < length r.table) (sym c.self.view_is) c.requires.place in
    let filed = same_filed i.table i.contexts i.filing i.doomed i.turned.items c.self.invariant.0 c.args.place c.at_mut.result.now changed within c.at_mut.ensures.value refl refl in
    (subst (λ (x : OpenRow). AreFiled (slice_set i.table c.args.place (Some x)) i.contexts i.filing i.doomed i.turned.items) (sym c.join.ensures) filed, c.self.invariant.1)

pub returns : goal.returns
returns c =
    let i = c.self.inside in
    let with_it : OpenRow → OpenRows = λ x. record { table = slice_set i.table c.args.place (Some x); contexts = i.contexts } in
    ap with_it c.join.ensures ∙ changed_rows c.args.self.now i.table i.contexts c.args.place (with_member c.args.number) c.at_mut.result.now c.self.view_is c.at_mut.ensures.value
