use Rattle.arena_rows.proofs.Retired.{all_free, ended_rests}
use Rattle.arena_rows.proofs.parts.Parts.retire.Goals as goal

pub returns : goal.returns
returns c = λ s rests.
    let a = c.args.self.now in
    let e = c.end_jobs.ensures in
    let held = e.held in
    rw held (ended_rests a s rests.holds (all_free a c.requires.idle) e.forest e.none e.long)
