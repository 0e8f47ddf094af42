use Rattle.std.proofs.Common.{◌≡◌, None, refl, sym, ap, ◌∙◌, arith}
use Rattle.region_tag.specs.Region.{region_of}
use Rattle.arena_rows.specs.declared.rows.Stage.TheVariants as stage
use Rattle.arena_rows.specs.HeldChanges.{next_id, root_entry, root_frame, job_begun, put}
use Rattle.arena_rows.proofs.Begun.{submitted_rests}
use Rattle.arena_rows.proofs.Making.{is_next, new_tag, can_wait}
use Rattle.arena_rows.proofs.Started.{some_none}
use Rattle.arena_rows.proofs.parts.Parts.submit.Goals as goal

pub wait-requires : goal.wait-requires
wait-requires c =
    let a = c.args.self.now in
    let rests = c.requires.rests in
    let place = c.begin-row.result.place in
    let begun = c.begin-row.ensures.begun in
    let held = begun.held in
    let id = c.begin-row.ensures.row in
    rw (held, id) (can_wait a rests.0 rests.1 place (job_begun a place c.args.job (stage.Waiting c.root_frame-frame.result) begun.context)
    (root_entry a (stage.Waiting c.root_frame-frame.result) begun.context) None c.begin-row.ensures.place c.requires.free refl refl (λ x none. absurd (some_none x (sym none))) refl
    (λ x none. absurd (some_none x (sym none))))

pub returns : goal.returns
returns c = λ s rests.
    let a = c.args.self.now in
    let place = c.begin-row.result.place in
    let begun = c.begin-row.ensures.begun in
    let frame = c.root_frame-frame.ensures in
    let held : c.begin-row.new.self ≡ job_begun a place c.args.job (stage.Waiting (root_frame c.args.job)) begun.context =
    begun.held ∙ ap (λ f. job_begun a place c.args.job (stage.Waiting f) begun.context) frame in
    let id = c.begin-row.ensures.row in
    let at = is_next a s rests.holds place c.begin-row.ensures.place in
    let tag : region_of (job_begun a place c.args.job (stage.Waiting (root_frame c.args.job)) begun.context).regions (next_id a place) ≡ None =
    new_tag a place (root_entry a (stage.Waiting (root_frame c.args.job)) begun.context) (omega (arith, at.within, at.regions)) in
    let new : c.wait.new.self ≡ put (job_begun a place c.args.job (stage.Waiting (root_frame c.args.job)) begun.context) (record { row = next_id a place; made_on = None; region = None }) =
    rw (held, id, tag) at c.wait.ensures in
    rw new (submitted_rests a s rests place c.args.job begun.context c.begin-row.ensures.place c.requires.free c.requires.jobs begun.free begun.within begun.count)
