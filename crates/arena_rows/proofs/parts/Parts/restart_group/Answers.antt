use Rattle.std.proofs.Common.{◌≡◌, ◌<◌, Some, None, false, length-set, refl, ap, ◌∙◌, arith}
use Rattle.std.specs.Prelude.{slice_index_or}
use Rattle.std.proofs.lemmas.List.{get_or_default}
use Rattle.cancel_context.specs.Forest.{binding, asking, held_count, with_request}
use Rattle.job_language.specs.declared.instructions.TheConstants.{GROUPS}
use Rattle.arena_rows.specs.Held.{Held}
use Rattle.arena_rows.specs.HeldChanges.{with_entry}
use Rattle.arena_rows.specs.MarkedGroups.{passed_mark, requested, with_group_emptied}
use Rattle.arena_rows.specs.Represents.{at_place}
use Rattle.arena_rows.proofs.Counters.{none_pending, given_held, group_of_entry}
use Rattle.arena_rows.proofs.GroupCalls.{with_context, without_context, passed_holds, passed_settled}
use Rattle.arena_rows.proofs.Grouped.{is_entry}
use Rattle.arena_rows.proofs.TopRows.{top_open, top_stands}
use Rattle.arena_rows.proofs.parts.Parts.restart_group.Goals as goal

pub empty_group-requires-clause-within : goal.empty_group-requires-clause-within
empty_group-requires-clause-within c =
    let h = c.requires in
    let row = c.top_row-place.ensures h.0 h.1 h.2 h.3 in
    rw row (top_stands c.args.self.now h.0 h.2 c.args.slot h.1 h.3).within

pub empty_group-requires-clause-there : goal.empty_group-requires-clause-there
empty_group-requires-clause-there c =
    let h = c.requires in
    let row = c.top_row-place.ensures h.0 h.1 h.2 h.3 in
    let there = (c.top_entry.ensures.entry h.0 h.1 h.2 h.3).0 in
    rw (row, there) refl

pub empty_group-requires-clause-ended : goal.empty_group-requires-clause-ended
empty_group-requires-clause-ended c = λ e here.
    let h = c.requires in
    let a = c.args.self.now in
    let row = c.top_row-place.ensures h.0 h.1 h.2 h.3 in
    let there : at_place a.table (h.2.places h.1) ≡ Some e = rw row at here in
    let value = c.index.ensures.value in
    let few : c.args.group < GROUPS = rw value at c.index.ensures.in_range in
    none_pending a h.0 h.2 h.1 e (is_entry a h.0 h.2 h.1 e (top_open a h.0 h.2 c.args.slot h.1 h.3) there).its c.args.group few h.4

pub take_back-requires : goal.take_back-requires
take_back-requires c =
    let h = c.requires in
    let a = c.args.self.now in
    let e = c.top_entry.result.now in
    let it = c.top_entry.ensures.entry h.0 h.1 h.2 h.3 in
    let row = c.top_row-place.ensures h.0 h.1 h.2 h.3 in
    let value = c.index.ensures.value in
    let few : c.args.group < GROUPS = rw value at c.index.ensures.in_range in
    let some : slice_index_or e.group_contexts c.index.result None ≡ Some c.in-Some.context =
    get_or_default e.group_contexts c.index.result None _ (omega (arith, c.index.ensures.in_range, it.1.all_contexts)) ∙ c.in-Some.is in
    let emptied = c.empty_group.ensures e (rw row it.0) in
    rw emptied (given_held a h.0 h.2 h.1 e (is_entry a h.0 h.2 h.1 e (top_open a h.0 h.2 c.args.slot h.1 h.3) it.0) c.args.group c.in-Some.context few (rw value at some))

pub returns-in-Some-clause-restarted : goal.returns-in-Some-clause-restarted
returns-in-Some-clause-restarted c = λ s n rests on_top ended.
    let a = c.args.self.now in
    let is = rests.holds in
    let g = c.args.group in
    let context = c.in-Some.context in
    let e = c.top_entry.result.now in
    let it = c.top_entry.ensures.entry s n is on_top in
    let row = c.top_row-place.ensures s n is on_top in
    let value = c.index.ensures.value in
    let few : g < GROUPS = rw value at c.index.ensures.in_range in
    let some : slice_index_or e.group_contexts c.index.result None ≡ Some context =
    get_or_default e.group_contexts c.index.result None _ (omega (arith, c.index.ensures.in_range, it.1.all_contexts)) ∙ c.in-Some.is in
    let opened = top_open a s is c.args.slot n on_top in
    let entry = is_entry a s is n e opened it.0 in
    let given = group_of_entry a s is n e entry g few ∙ (rw value at some) in
    let emptied : c.empty_group.new.self ≡ with_entry a (is.places n) (with_group_emptied g e) = rw row at (c.empty_group.ensures e (rw row it.0)) in
    let taken = c.take_back.ensures.taken_back in
    let count : held_count (with_request a.contexts context false) ≡ held_count a.contexts = rw (taken, emptied) at c.take_back.ensures.count in
    let holds = passed_holds a s is c.args.slot n on_top g few e entry ended (with_request a.contexts context false) (length-set a.contexts context (asking false (binding a.contexts context)))
    (with_context a s is n g (passed_mark s) opened few context false given refl count) in
    let new : c.take_back.new.self ≡ requested (with_entry a (is.places n) (with_group_emptied g e)) context false = taken ∙ ap (λ (x : Held). requested x context false) emptied in
    rw new (record { holds = holds; settled = passed_settled a s is c.args.slot n on_top g few e entry rests.settled })

pub returns-in-Some-clause-nests : goal.returns-in-Some-clause-nests
returns-in-Some-clause-nests c =
    let h = c.requires in
    let row = c.top_row-place.ensures h.0 h.1 h.2 h.3 in
    let there = (c.top_entry.ensures.entry h.0 h.1 h.2 h.3).0 in
    let emptied = c.empty_group.ensures c.top_entry.result.now (rw row there) in
    let taken = c.take_back.ensures.taken_back in
    ap (λ (x : Held). x.nests) taken ∙ ap (λ (x : Held). x.nests) emptied

pub returns-in_default-clause-restarted : goal.returns-in_default-clause-restarted
returns-in_default-clause-restarted c = λ s n rests on_top ended.
    let a = c.args.self.now in
    let is = rests.holds in
    let g = c.args.group in
    let e = c.top_entry.result.now in
    let it = c.top_entry.ensures.entry s n is on_top in
    let row = c.top_row-place.ensures s n is on_top in
    let value = c.index.ensures.value in
    let few : g < GROUPS = rw value at c.index.ensures.in_range in
    let none : slice_index_or e.group_contexts c.index.result None ≡ None =
    get_or_default e.group_contexts c.index.result None _ (omega (arith, c.index.ensures.in_range, it.1.all_contexts)) ∙ c.in_default.is in
    let entry = is_entry a s is n e (top_open a s is c.args.slot n on_top) it.0 in
    let bare = group_of_entry a s is n e entry g few ∙ (rw value at none) in
    let emptied : c.empty_group.new.self ≡ with_entry a (is.places n) (with_group_emptied g e) = rw row at (c.empty_group.ensures e (rw row it.0)) in
    let holds = passed_holds a s is c.args.slot n on_top g few e entry ended a.contexts refl (without_context a s is n g (passed_mark s) entry.opened few bare refl) in
    rw emptied (record { holds = holds; settled = passed_settled a s is c.args.slot n on_top g few e entry rests.settled })

pub returns-in_default-clause-nests : goal.returns-in_default-clause-nests
returns-in_default-clause-nests c =
    let h = c.requires in
    let row = c.top_row-place.ensures h.0 h.1 h.2 h.3 in
    let there = (c.top_entry.ensures.entry h.0 h.1 h.2 h.3).0 in
    let emptied = c.empty_group.ensures c.top_entry.result.now (rw row there) in
    ap (λ (x : Held). x.nests) emptied
