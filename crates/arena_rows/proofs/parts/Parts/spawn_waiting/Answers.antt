use Rattle.std.proofs.Common.{◌≡◌, ℕ, false, ◌<◌, ◌+◌, length, length-set, Option, Some, refl, sym, ap, ◌∙◌, arith, subst}
use Rattle.std.specs.Option.{ForSome}
use Rattle.cancel_context.specs.Forest.{IsHeld, held_count, with_bound}
use Rattle.cancel_context.proofs.Chains.{IsHeld-within}
use Rattle.job_language.specs.declared.instructions.TheConstants.{GROUPS}
use Rattle.region_tag.specs.declared.row_id.RowId.{RowId}
use Rattle.region_tag.specs.Region.{region_of}
use Rattle.tenant_model.specs.State.{row}
use Rattle.arena_rows.specs.declared.rows.OpenRow.{OpenRow}
use Rattle.arena_rows.specs.Held.{Held}
use Rattle.arena_rows.specs.Represents.{at_place, id_of, tag_of, IsFree, IsGroupContext, Rests}
use Rattle.arena_rows.specs.HeldChanges.{no_job, with_member, entered, job_counted, spawned_entry, next_id, put}
use Rattle.arena_rows.proofs.Capacity.{row_room, pending_most}
use Rattle.arena_rows.proofs.FreePlaces.{free_before}
use Rattle.arena_rows.proofs.Grouped.{is_entry}
use Rattle.arena_rows.proofs.Making.{IsNext, is_next, new_tag, can_wait, tag_there, tag_earlier}
use Rattle.arena_rows.proofs.Placed.{next_placed}
use Rattle.arena_rows.proofs.Posted.{few_open}
use Rattle.arena_rows.proofs.SpawnedRow.{spawned_holds}
use Rattle.arena_rows.proofs.SpawnSteps.{joined, joined_is, still_free, entered_is, counted_is}
use Rattle.std.specs.Prelude.{slice_set}
use Rattle.arena_rows.proofs.Started.{some_is}
use Rattle.arena_rows.proofs.TopRows.{top_open, top_there, top_stands, maker_within, on_slot}
use Rattle.tenant_model.specs.Walks as walks
use Rattle.ready_pool.specs.Ready.{IsRegionEntered}
use Rattle.ready_pool.specs.declared.pool.Waiting.{Waiting}
use Rattle.arena_rows.proofs.Putting.{tag_entered}
use Rattle.arena_rows.proofs.parts.Parts.spawn_waiting.Goals as goal

pub top_row-maker-requires : goal.top_row-maker-requires
top_row-maker-requires c = let h = c.requires.given in (h.0, h.1, h.2, h.4)

pub top_entry-requires : goal.top_entry-requires
top_entry-requires c = let h = c.requires.given in (h.0, h.1, h.2, h.4)

pub bind_row-own-requires-clause-room : goal.bind_row-own-requires-clause-room
bind_row-own-requires-clause-room c = let h = c.requires.given in row_room c.args.self.now h.0 h.2 c.requires.free

pub bind_row-own-requires-clause-parent : goal.bind_row-own-requires-clause-parent
bind_row-own-requires-clause-parent c =
    let h = c.requires.given in
    let opened = top_open c.args.self.now h.0 h.2 c.args.slot h.1 h.4 in
    let value = c.index.ensures.value in
    let few : c.args.group < GROUPS = rw value at c.index.ensures.in_range in
    let given = h.5 in
    let its : IsGroupContext h.0 c.args.self.now.contexts h.2.assigned h.1 c.args.group (Some c.args.context) = rw given at (h.2.contexts.of_groups h.1 c.args.group opened few) in
    rw its.1 refl

pub join-requires-clause-place : goal.join-requires-clause-place
join-requires-clause-place c =
    let h = c.requires.given in
    let bound = c.bind_row-own.ensures.bound in
    let maker = c.top_row-maker.ensures h.0 h.1 h.2 h.4 in
    rw (bound, maker) (top_stands c.args.self.now h.0 h.2 c.args.slot h.1 h.4).within

pub join-requires-clause-few : goal.join-requires-clause-few
join-requires-clause-few c = λ e here.
    let h = c.requires.given in
    let a = c.args.self.now in
    let bound = c.bind_row-own.ensures.bound in
    let maker = c.top_row-maker.ensures h.0 h.1 h.2 h.4 in
    let there : at_place a.table (h.2.places h.1) ≡ Some e = rw (bound, maker) at here in
    let value = c.index.ensures.value in
    let entry = is_entry a h.0 h.2 h.1 e (top_open a h.0 h.2 c.args.slot h.1 h.4) there in
    omega (arith, pending_most a h.0 h.2 h.1 c.args.group e entry.its (rw value at c.index.ensures.in_range), c.requires.few)

pub enter_row-row-requires-clause-free : goal.enter_row-row-requires-clause-free
enter_row-row-requires-clause-free c =
    let h = c.requires.given in
    let a = c.args.self.now in
    let me = c.top_entry.result.now in
    let maker = c.top_row-maker.result in
    let at_maker : at_place a.table maker.place ≡ Some me = ap (λ (r : RowId). at_place a.table r.place) (c.top_row-maker.ensures h.0 h.1 h.2 h.4) ∙ (c.top_entry.ensures.entry h.0 h.1 h.2 h.4).0 in
    let joins = joined_is a c.bind_row-own.new.self c.join.new.self c.bind_row-own.result c.args.context maker.place c.args.group me at_maker c.bind_row-own.ensures.bound c.join.ensures in
    let there = maker_within a h.0 h.2 c.args.slot h.1 h.4 maker (c.top_row-maker.ensures h.0 h.1 h.2 h.4) in
    rw joins (still_free a maker.place c.args.group me there at_maker c.requires.free)

pub enter_row-row-requires-clause-few : goal.enter_row-row-requires-clause-few
enter_row-row-requires-clause-few c =
    let h = c.requires.given in
    let a = c.args.self.now in
    let me = c.top_entry.result.now in
    let maker = c.top_row-maker.result in
    let at_maker : at_place a.table maker.place ≡ Some me = ap (λ (r : RowId). at_place a.table r.place) (c.top_row-maker.ensures h.0 h.1 h.2 h.4) ∙ (c.top_entry.ensures.entry h.0 h.1 h.2 h.4).0 in
    let joins = joined_is a c.bind_row-own.new.self c.join.new.self c.bind_row-own.result c.args.context maker.place c.args.group me at_maker c.bind_row-own.ensures.bound c.join.ensures in
    rw joins (omega (arith, c.requires.few))

pub enter_row-row-requires-clause-regions : goal.enter_row-row-requires-clause-regions
enter_row-row-requires-clause-regions c =
    let h = c.requires.given in
    let a = c.args.self.now in
    let me = c.top_entry.result.now in
    let maker = c.top_row-maker.result in
    let at_maker : at_place a.table maker.place ≡ Some me = ap (λ (r : RowId). at_place a.table r.place) (c.top_row-maker.ensures h.0 h.1 h.2 h.4) ∙ (c.top_entry.ensures.entry h.0 h.1 h.2 h.4).0 in
    let joins = joined_is a c.bind_row-own.new.self c.join.new.self c.bind_row-own.result c.args.context maker.place c.args.group me at_maker c.bind_row-own.ensures.bound c.join.ensures in
    rw joins (h.2.tags.long ∙ sym (length-set a.table maker.place (Some (with_member c.args.group me))))

pub enter_row-row-requires-clause-vacant : goal.enter_row-row-requires-clause-vacant
enter_row-row-requires-clause-vacant c =
    let h = c.requires.given in
    let a = c.args.self.now in
    let me = c.top_entry.result.now in
    let maker = c.top_row-maker.result in
    let at_maker : at_place a.table maker.place ≡ Some me = ap (λ (r : RowId). at_place a.table r.place) (c.top_row-maker.ensures h.0 h.1 h.2 h.4) ∙ (c.top_entry.ensures.entry h.0 h.1 h.2 h.4).0 in
    let joins = joined_is a c.bind_row-own.new.self c.join.new.self c.bind_row-own.result c.args.context maker.place c.args.group me at_maker c.bind_row-own.ensures.bound c.join.ensures in
    let there = maker_within a h.0 h.2 c.args.slot h.1 h.4 maker (c.top_row-maker.ensures h.0 h.1 h.2 h.4) in
    rw joins (λ p free. (is_next a h.0 h.2 p (free_before a.table maker.place (with_member c.args.group me) p there free)).untagged)

pub enter_row-row-requires-clause-earlier : goal.enter_row-row-requires-clause-earlier
enter_row-row-requires-clause-earlier c =
    let h = c.requires.given in
    let a = c.args.self.now in
    let me = c.top_entry.result.now in
    let maker = c.top_row-maker.result in
    let at_maker : at_place a.table maker.place ≡ Some me = ap (λ (r : RowId). at_place a.table r.place) (c.top_row-maker.ensures h.0 h.1 h.2 h.4) ∙ (c.top_entry.ensures.entry h.0 h.1 h.2 h.4).0 in
    let joins = joined_is a c.bind_row-own.new.self c.join.new.self c.bind_row-own.result c.args.context maker.place c.args.group me at_maker c.bind_row-own.ensures.bound c.join.ensures in
    let maker_is = c.top_row-maker.ensures h.0 h.1 h.2 h.4 in
    let earlier : ForSome (region_of a.regions maker) (λ r. r.number < a.made + 1) = rw maker_is (tag_earlier a h.0 h.2 h.1 (top_open a h.0 h.2 c.args.slot h.1 h.4)) in
    rw joins earlier

pub count_row-requires-clause-current : goal.count_row-requires-clause-current
count_row-requires-clause-current c =
    let h = c.requires.given in
    let a = c.args.self.now in
    let me = c.top_entry.result.now in
    let maker = c.top_row-maker.result in
    let at_maker : at_place a.table maker.place ≡ Some me = ap (λ (r : RowId). at_place a.table r.place) (c.top_row-maker.ensures h.0 h.1 h.2 h.4) ∙ (c.top_entry.ensures.entry h.0 h.1 h.2 h.4).0 in
    let joins = joined_is a c.bind_row-own.new.self c.join.new.self c.bind_row-own.result c.args.context maker.place c.args.group me at_maker c.bind_row-own.ensures.bound c.join.ensures in
    let enters = entered_is a c.join.new.self c.enter_row-row.new.self c.enter_row-row.result.place c.bind_row-own.result c.args.context maker.place c.args.group me maker me.job c.args.slot
    c.args.frame joins c.enter_row-row.ensures.entered in
    rw enters c.top_entry.ensures.current

pub count_row-requires-clause-few : goal.count_row-requires-clause-few
count_row-requires-clause-few c = λ d.
    let h = c.requires.given in
    let a = c.args.self.now in
    let me = c.top_entry.result.now in
    let maker = c.top_row-maker.result in
    let at_maker : at_place a.table maker.place ≡ Some me = ap (λ (r : RowId). at_place a.table r.place) (c.top_row-maker.ensures h.0 h.1 h.2 h.4) ∙ (c.top_entry.ensures.entry h.0 h.1 h.2 h.4).0 in
    let joins = joined_is a c.bind_row-own.new.self c.join.new.self c.bind_row-own.result c.args.context maker.place c.args.group me at_maker c.bind_row-own.ensures.bound c.join.ensures in
    let enters = entered_is a c.join.new.self c.enter_row-row.new.self c.enter_row-row.result.place c.bind_row-own.result c.args.context maker.place c.args.group me maker me.job c.args.slot
    c.args.frame joins c.enter_row-row.ensures.entered in
    let e : OpenRow = spawned_entry a maker c.args.group me.job c.bind_row-own.result c.args.slot c.args.frame in
    let table = slice_set a.table maker.place (Some (with_member c.args.group me)) in
    let long = length-set a.table maker.place (Some (with_member c.args.group me)) in
    let longer = length-set table c.enter_row-row.result.place (Some e) in
    rw enters (omega (arith, long, longer, few_open a h.0 h.2 me.job c.top_entry.ensures.current c.requires.free d))

pub wait-requires : goal.wait-requires
wait-requires c =
    let h = c.requires.given in
    let a = c.args.self.now in
    let me = c.top_entry.result.now in
    let maker = c.top_row-maker.result in
    let at_maker : at_place a.table maker.place ≡ Some me = ap (λ (r : RowId). at_place a.table r.place) (c.top_row-maker.ensures h.0 h.1 h.2 h.4) ∙ (c.top_entry.ensures.entry h.0 h.1 h.2 h.4).0 in
    let joins = joined_is a c.bind_row-own.new.self c.join.new.self c.bind_row-own.result c.args.context maker.place c.args.group me at_maker c.bind_row-own.ensures.bound c.join.ensures in
    let enters = entered_is a c.join.new.self c.enter_row-row.new.self c.enter_row-row.result.place c.bind_row-own.result c.args.context maker.place c.args.group me maker me.job c.args.slot
    c.args.frame joins c.enter_row-row.ensures.entered in
    let counts = counted_is a c.enter_row-row.new.self c.count_row.new.self c.enter_row-row.result.place c.bind_row-own.result c.args.context maker.place c.args.group me maker me.job c.args.slot
    c.args.frame enters c.count_row.ensures in
    let place = c.enter_row-row.result.place in
    let free : IsFree a.table place =
    free_before a.table maker.place (with_member c.args.group me) place (maker_within a h.0 h.2 c.args.slot h.1 h.4 maker (c.top_row-maker.ensures h.0 h.1 h.2 h.4))
    (subst (λ (x : Held). IsFree x.table place) joins c.enter_row-row.ensures.place) in
    let id : c.enter_row-row.result ≡ next_id a place = c.enter_row-row.ensures.row ∙ ap (λ (x : Held). next_id x place) joins in
    let e : OpenRow = spawned_entry a maker c.args.group me.job c.bind_row-own.result c.args.slot c.args.frame in
    let bb : Held = job_counted (entered (joined a c.bind_row-own.result c.args.context maker.place c.args.group me) place e) me.job no_job in
    let rests : Rests a h.0 = record { holds = h.2; settled = h.3 } in
    let opened = top_open a h.0 h.2 c.args.slot h.1 h.4 in
    let there = top_there a h.0 h.2 c.args.slot h.1 h.4 in
    let maker_is = c.top_row-maker.ensures h.0 h.1 h.2 h.4 in
    let tag : region_of a.regions maker ≡ tag_of h.0.rows h.2.places h.1 = ap (region_of a.regions) maker_is ∙ tag_there a h.0 h.2 h.1 opened in
    let outer : IsRegionEntered a.regions (region_of a.regions maker) = rw tag (tag_entered a h.0 rests h.1 (walks.region_of h.0.rows h.1) refl there.0 there.1 opened h.6) in
    let on = on_slot a h.0 h.2 c.args.slot h.1 h.4 in
    rw (counts, id) (can_wait a h.0 rests place bb e (Some c.args.slot) free c.requires.free refl refl (λ x same. omega (arith, some_is c.args.slot x same, on)) refl outer)

pub returns : goal.returns
returns c = λ s n is settled on_top given fine steady.
    let h = c.requires.given in
    let a = c.args.self.now in
    let me = c.top_entry.result.now in
    let maker = c.top_row-maker.result in
    let at_maker : at_place a.table maker.place ≡ Some me = ap (λ (r : RowId). at_place a.table r.place) (c.top_row-maker.ensures h.0 h.1 h.2 h.4) ∙ (c.top_entry.ensures.entry h.0 h.1 h.2 h.4).0 in
    let joins = joined_is a c.bind_row-own.new.self c.join.new.self c.bind_row-own.result c.args.context maker.place c.args.group me at_maker c.bind_row-own.ensures.bound c.join.ensures in
    let enters = entered_is a c.join.new.self c.enter_row-row.new.self c.enter_row-row.result.place c.bind_row-own.result c.args.context maker.place c.args.group me maker me.job c.args.slot
    c.args.frame joins c.enter_row-row.ensures.entered in
    let own = c.bind_row-own.result in
    let gc = c.args.context in
    let g = c.args.group in
    let slot = c.args.slot in
    let value = c.index.ensures.value in
    let few : g < GROUPS = rw value at c.index.ensures.in_range in
    let bound = c.bind_row-own.ensures.bound in
    let held : IsHeld (with_bound a.contexts own (Some gc)) own = rw bound at c.bind_row-own.ensures.held in
    let count : held_count (with_bound a.contexts own (Some gc)) ≡ held_count a.contexts + 1 = rw bound at c.bind_row-own.ensures.count in
    let below = IsHeld-within (with_bound a.contexts own (Some gc)) own held in
    let room : own < length a.contexts = omega (arith, below, length-set a.contexts own (Some (record { parent = Some gc; is_asked = false; is_orphan = false }))) in
    let place = c.enter_row-row.result.place in
    let free : IsFree a.table place =
    free_before a.table maker.place (with_member c.args.group me) place (maker_within a h.0 h.2 c.args.slot h.1 h.4 maker (c.top_row-maker.ensures h.0 h.1 h.2 h.4))
    (subst (λ (x : Held). IsFree x.table place) joins c.enter_row-row.ensures.place) in
    let next = next_placed a s is place in
    let its = c.top_entry.ensures.entry s n next.holds on_top in
    let maker_is : maker ≡ id_of next.holds.places n = c.top_row-maker.ensures s n next.holds on_top in
    let opened = top_open a s next.holds slot n on_top in
    let entry = is_entry a s next.holds n me opened its.0 in
    let its_group : next.holds.assigned.of_group n g ≡ Some gc = ap (λ x. x.of_group n g) next.assigned ∙ given in
    let holds = spawned_holds a s next.holds place next.placed slot n g gc own c.args.frame me on_top entry steady free few its_group c.bind_row-own.ensures.fresh room count no_job in
    let counts = counted_is a c.enter_row-row.new.self c.count_row.new.self c.enter_row-row.result.place own gc maker.place g me maker me.job slot c.args.frame enters c.count_row.ensures in
    let id : c.enter_row-row.result ≡ next_id a place = c.enter_row-row.ensures.row ∙ ap (λ (x : Held). next_id x place) joins in
    let e : OpenRow = spawned_entry a maker g me.job own slot c.args.frame in
    let b : Held = job_counted (entered (joined a own gc maker.place g me) place e) me.job no_job in
    let at : IsNext a place = is_next a s is place free in
    let tag : region_of b.regions (next_id a place) ≡ tag_of s.rows next.holds.places n =
    new_tag a place e (omega (arith, at.within, at.regions)) ∙ ap (region_of a.regions) maker_is ∙ tag_there a s next.holds n opened in
    let waiting_at : RowId → Option RowId → Waiting = λ r t. record { row = r; made_on = Some slot; region = t } in
    let new : c.wait.new.self ≡ put b (waiting_at (next_id a place) (tag_of s.rows next.holds.places n)) =
    c.wait.ensures ∙ ap (λ (x : Held). put x (waiting_at c.enter_row-row.result (region_of x.regions c.enter_row-row.result))) counts ∙ ap (λ r. put b (waiting_at r (region_of b.regions r))) id ∙
    ap (λ t. put b (waiting_at (next_id a place) t)) tag in
    let made : RowId → ℕ → Held = λ m j. put (job_counted (entered (joined a own gc m.place g me) place (spawned_entry a m g j own slot c.args.frame)) j no_job)
    (waiting_at (next_id a place) (tag_of s.rows next.holds.places n)) in
    let new_is : c.wait.new.self ≡ made (id_of next.holds.places n) (row s.rows n).job = new ∙ ap (λ m. made m me.job) maker_is ∙ ap (made (id_of next.holds.places n)) its.1.job in
    rw new_is holds
