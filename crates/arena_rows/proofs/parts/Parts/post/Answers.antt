use Rattle.std.proofs.Common.{◌≡◌, length-set, length, Some, None, refl, sym, ap, ◌∙◌, arith}
use Rattle.region_tag.specs.Region.{region_of}
use Rattle.tenant_model.specs.State.{row}
use Rattle.arena_rows.specs.declared.rows.OpenRow.{OpenRow}
use Rattle.arena_rows.specs.Held.{Held}
use Rattle.arena_rows.specs.HeldChanges.{no_job, entered, job_counted, posted_entry, next_id, put}
use Rattle.arena_rows.specs.HeldJobs.{IsCurrent}
use Rattle.arena_rows.proofs.Making.{IsNext, is_next, new_tag, can_wait}
use Rattle.arena_rows.proofs.Placed.{next_placed}
use Rattle.arena_rows.proofs.Started.{some_none}
use Rattle.arena_rows.proofs.OneJob.{context_told}
use Rattle.arena_rows.proofs.Posted.{posted_holds, few_open}
use Rattle.arena_rows.proofs.parts.Parts.post.Goals as goal

pub count_row-requires-clause-few : goal.count_row-requires-clause-few
count_row-requires-clause-few c = λ d.
    let a = c.args.self.now in
    let place = c.enter_row-row.result.place in
    let e = c.top_entry.ensures in
    let new = c.enter_row-row.ensures.entered in
    let long = length-set a.table place (Some (posted_entry a c.top_entry.result.now.job c.context_of-context.result c.args.frame)) in
    rw new (omega (arith, long, few_open a c.requires.rests.0 c.requires.rests.1.holds c.top_entry.result.now.job e.current c.requires.free d))

pub wait-requires : goal.wait-requires
wait-requires c =
    let a = c.args.self.now in
    let place = c.enter_row-row.result.place in
    let rests = c.requires.rests in
    let e : OpenRow = posted_entry a c.top_entry.result.now.job c.context_of-context.result c.args.frame in
    let id = c.enter_row-row.ensures.row in
    let entered_is = c.enter_row-row.ensures.entered in
    let counted = rw entered_is at (c.count_row.ensures no_job) in
    rw (counted, id) (can_wait a rests.0 rests.1 place (job_counted (entered a place e) c.top_entry.result.now.job no_job) e None c.enter_row-row.ensures.place c.requires.free refl refl
    (λ x none. absurd (some_none x (sym none))) refl (λ x none. absurd (some_none x (sym none))))

pub returns : goal.returns
returns c = λ s n rests on_top steady.
    let a = c.args.self.now in
    let place = c.enter_row-row.result.place in
    let t = c.top_entry.ensures in
    let its_job = (t.entry s n rests.holds on_top).1.job in
    let j = (row s.rows n).job in
    let current : IsCurrent a.jobs j = rw its_job at t.current in
    let next = next_placed a s rests.holds place in
    let ctx = c.context_of-context.result in
    let told : ctx ≡ next.holds.assigned.of_job j = rw its_job at (c.context_of-context.ensures no_job) ∙ context_told a s rests.holds j current no_job ∙ ap (λ x. x.of_job j) (sym next.assigned) in
    let e : OpenRow = posted_entry a c.top_entry.result.now.job ctx c.args.frame in
    let b : Held = job_counted (entered a place e) c.top_entry.result.now.job no_job in
    let at : IsNext a place = is_next a s rests.holds place c.enter_row-row.ensures.place in
    let tag : region_of b.regions (next_id a place) ≡ None = new_tag a place e (omega (arith, at.within, at.regions)) in
    let id = c.enter_row-row.ensures.row in
    let entered_is = c.enter_row-row.ensures.entered in
    let counted : c.count_row.new.self ≡ b = rw entered_is at (c.count_row.ensures no_job) in
    let new : c.wait.new.self ≡ put b (record { row = next_id a place; made_on = None; region = None }) = rw (counted, id, tag) at c.wait.ensures in
    let holds = posted_holds a s next.holds place next.placed j ctx c.args.frame steady c.enter_row-row.ensures.place current told no_job in
    rw (new, its_job) holds
