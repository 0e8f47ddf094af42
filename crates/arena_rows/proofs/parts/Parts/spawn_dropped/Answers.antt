use Rattle.std.proofs.Common.{◌≡◌, ◌<◌, Some, refl, ap, ◌∙◌, arith}
use Rattle.job_language.specs.declared.instructions.TheConstants.{GROUPS}
use Rattle.arena_rows.specs.HeldChanges.{with_entry}
use Rattle.arena_rows.specs.MarkedGroups.{more_made, with_ended_member}
use Rattle.arena_rows.specs.Represents.{at_place}
use Rattle.arena_rows.proofs.Capacity.{pending_most}
use Rattle.arena_rows.proofs.DroppedRow.{born_holds, born_settled}
use Rattle.arena_rows.proofs.Grouped.{entry_of, is_entry}
use Rattle.arena_rows.proofs.TopRows.{top_open, top_stands}
use Rattle.arena_rows.proofs.parts.Parts.spawn_dropped.Goals as goal

pub join_ended-requires-clause-within : goal.join_ended-requires-clause-within
join_ended-requires-clause-within c =
    let h = c.requires.top in
    let row = c.top_row-place.ensures h.0 h.1 h.2 h.3 in
    rw row (top_stands c.args.self.now h.0 h.2 c.args.slot h.1 h.3).within

pub join_ended-requires-clause-there : goal.join_ended-requires-clause-there
join_ended-requires-clause-there c =
    let h = c.requires.top in
    let row = c.top_row-place.ensures h.0 h.1 h.2 h.3 in
    let there = (top_stands c.args.self.now h.0 h.2 c.args.slot h.1 h.3).there in
    rw (row, there) refl

pub join_ended-requires-clause-few : goal.join_ended-requires-clause-few
join_ended-requires-clause-few c = λ e here.
    let h = c.requires.top in
    let a = c.args.self.now in
    let row = c.top_row-place.ensures h.0 h.1 h.2 h.3 in
    let there : at_place a.table (h.2.places h.1) ≡ Some e = rw row at here in
    let value = c.index.ensures.value in
    let low : c.args.group < GROUPS = rw value at c.index.ensures.in_range in
    let most = pending_most a h.0 h.2 h.1 c.args.group e (is_entry a h.0 h.2 h.1 e (top_open a h.0 h.2 c.args.slot h.1 h.3) there).its low in
    omega (arith, most, c.requires.few)

pub count_made-requires : goal.count_made-requires
count_made-requires c =
    let h = c.requires.top in
    let row = c.top_row-place.ensures h.0 h.1 h.2 h.3 in
    let stands = top_stands c.args.self.now h.0 h.2 c.args.slot h.1 h.3 in
    let joined = c.join_ended.ensures stands.entry (rw row stands.there) in
    rw joined (omega (arith, c.requires.few))

pub returns : goal.returns
returns c = λ s n rests context frame on_top given steady.
    let a = c.args.self.now in
    let is = rests.holds in
    let g = c.args.group in
    let row = c.top_row-place.ensures s n is on_top in
    let value = c.index.ensures.value in
    let low : g < GROUPS = rw value at c.index.ensures.in_range in
    let entry = entry_of a s is n (top_open a s is c.args.slot n on_top) in
    let joined : c.join_ended.new.self ≡ with_entry a (is.places n) (with_ended_member g entry.0) = rw row at (c.join_ended.ensures entry.0 (rw row entry.1.there)) in
    let new : c.count_made.new.self ≡ more_made (with_entry a (is.places n) (with_ended_member g entry.0)) = c.count_made.ensures ∙ ap more_made joined in
    rw new (record {
      holds = born_holds a s is c.args.slot n g context frame entry.0 on_top entry.1 low given steady;
      settled =
          born_settled a s is c.args.slot n g context frame entry.0 on_top entry.1 low given steady rests.settled;
    })
