use Rattle.std.proofs.Common.{◌≡◌, ◌<◌, Some, true, refl, ap, ◌∙◌}
use Rattle.cancel_context.specs.Forest.{held_count, with_request}
use Rattle.job_language.specs.declared.instructions.TheConstants.{GROUPS}
use Rattle.tenant_model.proofs.Steady.{steady_cancelled}
use Rattle.arena_rows.specs.Held.{Held}
use Rattle.arena_rows.specs.HeldChanges.{framed}
use Rattle.arena_rows.specs.MarkedGroups.{cancelled_mark, requested}
use Rattle.arena_rows.specs.Represents.{IsGroupContext}
use Rattle.arena_rows.proofs.GroupCalls.{cancelled_holds, moved_on}
use Rattle.arena_rows.proofs.Grouped.{entry_of}
use Rattle.arena_rows.proofs.TopRows.{top_within, some_row, top_open, top_at}
use Rattle.arena_rows.proofs.parts.Parts.cancel_group.Goals as goal

pub request-requires : goal.request-requires
request-requires c =
    let h = c.requires in
    let b = c.group_context-context.new.self in
    let it = c.group_context-context.ensures.given h.0 h.1 h.2 h.3 in
    let value = c.index.ensures.value in
    let few : c.args.group < GROUPS = rw value at c.index.ensures.in_range in
    let given = it.given in
    let its : IsGroupContext h.0 b.contexts it.holds.assigned h.1 c.args.group (Some c.group_context-context.result) =
    rw given at (it.holds.contexts.of_groups h.1 c.args.group (top_open b h.0 it.holds c.args.slot h.1 h.3) few) in
    rw its.1 refl

pub set_frame-requires-clause-slot : goal.set_frame-requires-clause-slot
set_frame-requires-clause-slot c =
    let h = c.requires in
    let it = c.group_context-context.ensures.given h.0 h.1 h.2 h.3 in
    let asked = c.request.ensures.requested in
    rw asked (top_within c.group_context-context.new.self c.args.slot (h.0, h.1, it.holds, h.3))

pub set_frame-requires-clause-height : goal.set_frame-requires-clause-height
set_frame-requires-clause-height c =
    let h = c.requires in
    let it = c.group_context-context.ensures.given h.0 h.1 h.2 h.3 in
    let asked = c.request.ensures.requested in
    rw asked (some_row c.group_context-context.new.self c.args.slot (h.0, h.1, it.holds, h.3))

pub returns : goal.returns
returns c = λ s n is on_top as_many.
    let b = c.group_context-context.new.self in
    let slot = c.args.slot in
    let g = c.args.group in
    let f = c.args.frame in
    let context = c.group_context-context.result in
    let it = c.group_context-context.ensures.given s n is on_top in
    let value = c.index.ensures.value in
    let few : g < GROUPS = rw value at c.index.ensures.in_range in
    let entry = entry_of b s it.holds n (top_open b s it.holds slot n on_top) in
    let asked = c.request.ensures.requested in
    let count : held_count (with_request b.contexts context true) ≡ held_count b.contexts = rw asked at c.request.ensures.count in
    let marked_is = cancelled_holds b s it.holds slot n on_top g few entry.0 entry.1 context it.given count in
    let steady = steady_cancelled s slot n (top_at b s it.holds slot n on_top) it.holds.steady f g as_many in
    let new : c.set_frame.new.self ≡ framed (requested b context true) slot f = c.set_frame.ensures ∙ ap (λ (x : Held). framed x slot f) asked in
    rw new (moved_on b s it.holds slot n on_top g few (cancelled_mark s n g) f (requested b context true) refl marked_is steady)
