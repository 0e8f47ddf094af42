use Rattle.std.proofs.Common.{◌≡◌, length-set, ℕ, Some, sym, ap, ◌∙◌, arith}
use Rattle.region_tag.specs.declared.row_id.RowId.{RowId}
use Rattle.arena_rows.specs.declared.rows.OpenRow.{OpenRow}
use Rattle.arena_rows.specs.Held.{Held}
use Rattle.arena_rows.specs.Represents.{id_of}
use Rattle.arena_rows.specs.HeldChanges.{no_job, entered, job_counted, region_entry, region_pushed, next_id}
use Rattle.arena_rows.proofs.Making.{tag_earlier}
use Rattle.arena_rows.proofs.Placed.{next_placed}
use Rattle.arena_rows.proofs.Posted.{few_open}
use Rattle.arena_rows.proofs.Regioned.{region_holds}
use Rattle.arena_rows.proofs.TopRows.{top_within, top_open, top_there}
use Rattle.arena_rows.proofs.parts.Parts.isolate.Goals as goal

pub height-requires : goal.height-requires
height-requires c = top_within c.args.self.now c.args.slot c.requires.top

pub enter_row-row-requires-clause-earlier : goal.enter_row-row-requires-clause-earlier
enter_row-row-requires-clause-earlier c =
    let a = c.args.self.now in
    let h = c.requires.top in
    let maker = c.top_row-maker.ensures h.0 h.1 h.2 h.3 in
    rw maker (tag_earlier a h.0 h.2 h.1 (top_open a h.0 h.2 c.args.slot h.1 h.3))

pub count_row-requires-clause-few : goal.count_row-requires-clause-few
count_row-requires-clause-few c = λ d.
    let a = c.args.self.now in
    let place = c.enter_row-row.result.place in
    let h = c.requires.top in
    let e = c.top_entry-entry.ensures in
    let new = c.enter_row-row.ensures.entered in
    let long = length-set a.table place (Some (region_entry a c.top_row-maker.result c.top_entry-entry.result.now.job c.top_entry-entry.result.now.context c.args.slot)) in
    let high = c.height.ensures in
    rw (new, high) (omega (arith, long, few_open a h.0 h.2 c.top_entry-entry.result.now.job e.current c.requires.free d))

pub push_region-requires-clause-slot : goal.push_region-requires-clause-slot
push_region-requires-clause-slot c =
    let a = c.args.self.now in
    let entered_is = c.enter_row-row.ensures.entered in
    let counted = rw entered_is at (c.count_row.ensures no_job) in
    rw counted (top_within a c.args.slot c.requires.top)

pub push_region-requires-clause-height : goal.push_region-requires-clause-height
push_region-requires-clause-height c =
    let entered_is = c.enter_row-row.ensures.entered in
    let counted = rw entered_is at (c.count_row.ensures no_job) in
    rw counted c.requires.height

pub returns : goal.returns
returns c = λ s n is on_top steady.
    let a = c.args.self.now in
    let place = c.enter_row-row.result.place in
    let t = c.top_entry-entry.ensures in
    let entry = t.entry s n is on_top in
    let its_job = entry.1.job in
    let next = next_placed a s is place in
    let there = top_there a s is c.args.slot n on_top in
    let to_id : ℕ → RowId = λ p. record { number = n; place = p } in
    let maker : c.top_row-maker.result ≡ id_of next.holds.places n = c.top_row-maker.ensures s n is on_top ∙ ap to_id (sym (next.old n there.1)) in
    let ctx = c.top_entry-entry.result.now.context in
    let told : ctx ≡ next.holds.assigned.of_row n =
    (is.contexts.in_table (is.places n) c.top_entry-entry.result.now entry.0).0 ∙ ap is.assigned.of_row entry.1.number ∙ ap (λ x. x.of_row n) (sym next.assigned) in
    let high = c.height.ensures in
    let e : OpenRow = region_entry a c.top_row-maker.result c.top_entry-entry.result.now.job ctx c.args.slot in
    let b : Held = job_counted (entered a place e) c.top_entry-entry.result.now.job no_job in
    let id = c.enter_row-row.ensures.row in
    let entered_is : c.enter_row-row.new.self ≡ entered a place e = rw high at c.enter_row-row.ensures.entered in
    let counted : c.count_row.new.self ≡ b = rw entered_is at (c.count_row.ensures no_job) in
    let new : c.push_region.new.self ≡ region_pushed b c.args.slot c.args.frame (next_id a place) = rw (counted, id) at c.push_region.ensures in
    let holds = region_holds a s next.holds place next.placed c.args.slot n ctx c.args.frame on_top steady c.enter_row-row.ensures.place told no_job in
    rw (new, maker, its_job) holds
