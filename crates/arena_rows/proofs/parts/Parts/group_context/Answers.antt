use Rattle.std.proofs.Common.{◌≡◌, false, ◌<◌, ◌+◌, length, length-set, Some, None, refl, sym, ap, ◌∙◌, arith}
use Rattle.std.specs.Prelude.{slice_index_or}
use Rattle.std.proofs.lemmas.List.{get_or_default}
use Rattle.cancel_context.specs.Forest.{IsHeld, held_count, with_bound}
use Rattle.job_language.specs.declared.instructions.TheConstants.{GROUPS}
use Rattle.cancel_context.proofs.Chains.{IsHeld-within}
use Rattle.tenant_model.specs.State.{row}
use Rattle.tenant_model.specs.Walks.{is_unstarted}
use Rattle.arena_rows.specs.Represents.{at_place}
use Rattle.arena_rows.specs.HeldChanges.{group_given, with_group}
use Rattle.arena_rows.proofs.Capacity.{group_room}
use Rattle.arena_rows.proofs.FreePlaces.{same_taken}
use Rattle.arena_rows.proofs.Grouped.{is_entry, group_bound}
use Rattle.arena_rows.proofs.RowHeld.{row_held}
use Rattle.arena_rows.proofs.TopRows.{top_open, top_at, top_stands, maker_within}
use Rattle.arena_rows.proofs.parts.Parts.group_context.Goals as goal

pub returns-in-Some-clause-given : goal.returns-in-Some-clause-given
returns-in-Some-clause-given c = λ s n is on_top.
    let it = c.top_entry-entry.ensures.entry s n is on_top in
    let value = c.index.ensures.value in
    let few : c.args.group < GROUPS = rw value at c.index.ensures.in_range in
    let some : slice_index_or c.top_entry-entry.result.now.group_contexts c.index.result None ≡ Some c.in-Some.context =
    get_or_default c.top_entry-entry.result.now.group_contexts c.index.result None _ (omega (arith, c.index.ensures.in_range, it.1.all_contexts)) ∙ c.in-Some.is in
    let there = (is.contexts.in_table (is.places n) c.top_entry-entry.result.now it.0).1 c.args.group few in
    record { holds = is; places = λ m. refl; given = ap (λ k. is.assigned.of_group k c.args.group) (sym it.1.number) ∙ sym there ∙ rw value at some }

pub bind_group-requires-clause-within : goal.bind_group-requires-clause-within
bind_group-requires-clause-within c =
    let h = c.requires in
    let row = c.top_row-row.ensures h.0 h.1 h.2 h.3 in
    rw row (top_stands c.args.self.now h.0 h.2 c.args.slot h.1 h.3).within

pub bind_group-requires-clause-there : goal.bind_group-requires-clause-there
bind_group-requires-clause-there c =
    let h = c.requires in
    let row = c.top_row-row.ensures h.0 h.1 h.2 h.3 in
    let there = (c.top_entry-entry.ensures.entry h.0 h.1 h.2 h.3).0 in
    rw (row, there) refl

pub bind_group-requires-clause-room : goal.bind_group-requires-clause-room
bind_group-requires-clause-room c =
    let h = c.requires in
    let it = c.top_entry-entry.ensures.entry h.0 h.1 h.2 h.3 in
    let few = c.index.ensures.in_range in
    let none : slice_index_or c.top_entry-entry.result.now.group_contexts c.index.result None ≡ None =
    get_or_default c.top_entry-entry.result.now.group_contexts c.index.result None _ (omega (arith, few, it.1.all_contexts)) ∙ c.in_default.is in
    group_room c.args.self.now h.0 h.2 (h.2.places h.1) c.index.result c.top_entry-entry.result.now (top_stands c.args.self.now h.0 h.2 c.args.slot h.1 h.3).within it.0 it.1.all_contexts few none

pub bind_group-requires-clause-parent : goal.bind_group-requires-clause-parent
bind_group-requires-clause-parent c = λ e here.
    let h = c.requires in
    let a = c.args.self.now in
    let row = c.top_row-row.ensures h.0 h.1 h.2 h.3 in
    let there : at_place a.table (h.2.places h.1) ≡ Some e = rw row at here in
    let entry = is_entry a h.0 h.2 h.1 e (top_open a h.0 h.2 c.args.slot h.1 h.3) there in
    let context = (h.2.contexts.in_table (h.2.places h.1) e there).0 ∙ ap h.2.assigned.of_row entry.its.number in
    rw context (row_held a h.0 h.2 h.1 entry.opened)

pub returns-clause-given : goal.returns-clause-given
returns-clause-given c = λ s n is on_top.
    let a = c.args.self.now in
    let e = c.top_entry-entry.result.now in
    let it = c.top_entry-entry.ensures.entry s n is on_top in
    let row_is = c.top_row-row.ensures s n is on_top in
    let value = c.index.ensures.value in
    let few : c.args.group < GROUPS = rw value at c.index.ensures.in_range in
    let none : slice_index_or e.group_contexts c.index.result None ≡ None =
    get_or_default e.group_contexts c.index.result None _ (omega (arith, c.index.ensures.in_range, it.1.all_contexts)) ∙ c.in_default.is in
    let entry = is_entry a s is n e (top_open a s is c.args.slot n on_top) it.0 in
    let live = (top_at a s is c.args.slot n on_top).live in
    let started : is_unstarted (row s.rows n).phase ≡ false = rw live refl in
    let new : c.bind_group.new.self ≡ group_given a (is.places n) c.args.group c.bind_group.result e = rw row_is at (c.bind_group.ensures.given e (rw row_is it.0)) in
    let count : held_count (with_bound a.contexts c.bind_group.result (Some e.context)) ≡ held_count a.contexts + 1 = rw new at c.bind_group.ensures.count in
    let held : IsHeld (with_bound a.contexts c.bind_group.result (Some e.context)) c.bind_group.result = rw new at c.bind_group.ensures.held in
    let below = IsHeld-within (with_bound a.contexts c.bind_group.result (Some e.context)) c.bind_group.result held in
    let room : c.bind_group.result < length a.contexts =
    omega (arith, below, length-set a.contexts c.bind_group.result (Some (record { parent = Some e.context; is_asked = false; is_orphan = false }))) in
    let grouped = group_bound a s is n c.args.group c.bind_group.result e entry started few (rw value at none) c.bind_group.ensures.fresh room count in
    rw new (record { holds = grouped.holds; places = λ m. ap (λ f. f m) grouped.places; given = grouped.given })

pub returns-clause-free : goal.returns-clause-free
returns-clause-free c =
    let h = c.requires in
    let row = c.top_row-row.ensures h.0 h.1 h.2 h.3 in
    let there = (c.top_entry-entry.ensures.entry h.0 h.1 h.2 h.3).0 in
    let a = c.args.self.now in
    let e = c.top_entry-entry.result.now in
    let place = c.top_row-row.result.place in
    let at_row : at_place a.table place ≡ Some e = rw row there in
    let within = maker_within a h.0 h.2 c.args.slot h.1 h.3 c.top_row-row.result row in
    let given = with_group c.args.group c.bind_group.result e in
    rw (c.bind_group.ensures.given e at_row) (λ some. omega (arith, some, same_taken a.table place e given within at_row, length-set a.table place (Some given)))

pub returns-clause-made : goal.returns-clause-made
returns-clause-made c =
    let h = c.requires in
    let row = c.top_row-row.ensures h.0 h.1 h.2 h.3 in
    let there = (c.top_entry-entry.ensures.entry h.0 h.1 h.2 h.3).0 in
    let new = c.bind_group.ensures.given c.top_entry-entry.result.now (rw row there) in
    rw new refl
