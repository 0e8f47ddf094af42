use Rattle.std.proofs.Common.{◌≡◌, Some, subst, refl, w64}
use Rattle.std.proofs.lemmas.Int.{to_z-of_z}
use Rattle.arena_rows.specs.declared.rows.OpenRow.{OpenRow}
use Rattle.arena_rows.specs.Represents.{at_place}
use Rattle.arena_rows.specs.Endings.{HasUnused, HasEnded}
use Rattle.arena_rows.proofs.EndHolds.{done_holds, ended_settled}
use Rattle.arena_rows.proofs.EndTop.{over_on_top, still_within, still_some}
use Rattle.arena_rows.proofs.Loose.{loose_unused}
use Rattle.arena_rows.proofs.TopRows.{top_open, top_there}
use Rattle.arena_rows.proofs.parts.Parts.finish.Goals as goal

pub top_row-row-requires : goal.top_row-row-requires
top_row-row-requires c = let h : HasUnused c.args.self.now c.args.slot = c.requires in (h.0, h.1, h.2, h.3)

pub end-requires : goal.end-requires
end-requires c =
    let a = c.args.self.now in
    let h : HasUnused a c.args.slot = c.requires in
    (h.0, h.1, h.2, top_open a h.0 h.2 c.args.slot h.1 h.3, c.top_row-row.ensures h.0 h.1 h.2 h.3, loose_unused a h.0 h.2 c.args.slot h.1 h.3 h.4)

pub pop-requires-clause-slot : goal.pop-requires-clause-slot
pop-requires-clause-slot c =
    let h : HasUnused c.args.self.now c.args.slot = c.requires in
    still_within c.args.self.now c.end.new.self c.top_row-row.result _ c.end.ensures c.args.slot (h.0, h.1, h.2, h.3) (c.top_row-row.ensures h.0 h.1 h.2 h.3)

pub pop-requires-clause-height : goal.pop-requires-clause-height
pop-requires-clause-height c =
    let h : HasUnused c.args.self.now c.args.slot = c.requires in
    still_some c.args.self.now c.end.new.self c.top_row-row.result _ c.end.ensures c.args.slot (h.0, h.1, h.2, h.3) (c.top_row-row.ensures h.0 h.1 h.2 h.3)

pub returns : goal.returns
returns c = λ s n frame rests on_top unused same.
    let a = c.args.self.now in
    let b = c.end.new.self in
    let is = rests.holds in
    let value = c.args.value in
    let ends : (e : OpenRow) → at_place a.table c.top_row-row.result.place ≡ Some e → HasEnded a b c.top_row-row.result e value =
    λ e there. subst (HasEnded a b c.top_row-row.result e) (to_z-of_z w64 value c.ranges.value) (c.end.ensures e there) in
    let it = over_on_top a b c.top_row-row.result value ends s is c.args.slot n on_top (c.top_row-row.ensures s n is on_top) in
    let there = top_there a s is c.args.slot n on_top in
    let holds = done_holds a b s is n it.e it.entry (loose_unused a s is c.args.slot n on_top unused) c.args.slot on_top frame value it.over same unused in
    rw c.pop.ensures (record {
      holds = holds;
      settled = ended_settled s n _ there.0 there.1 refl refl refl (top_open a s is c.args.slot n on_top) refl rests.settled;
    })
