use Rattle.std.proofs.Common.{◌≡◌}
use Rattle.arena_rows.specs.declared.rows.Stage.TheVariants as stage
use Rattle.arena_rows.specs.HeldChanges.{next_id, root_frame, root_pushed, job_begun}
use Rattle.arena_rows.proofs.Begun.{placed_rests}
use Rattle.arena_rows.proofs.parts.Parts.place.Goals as goal

pub returns : goal.returns
returns c = λ s rests.
    let a = c.args.self.now in
    let place = c.begin-row.result.place in
    let begun = c.begin-row.ensures.begun in
    let held = begun.held in
    let id = c.begin-row.ensures.row in
    let frame = c.root_frame-frame.ensures in
    let new : c.push_root.new.self ≡ root_pushed (job_begun a place c.args.job (stage.Live c.args.slot 1) begun.context) c.args.slot (root_frame c.args.job) (next_id a place) =
    rw (held, id, frame) at c.push_root.ensures in
    rw new (placed_rests a s rests place c.args.job begun.context c.begin-row.ensures.place c.requires.free c.requires.jobs begun.free begun.within begun.count c.args.slot c.requires.slot
    c.requires.empty)
