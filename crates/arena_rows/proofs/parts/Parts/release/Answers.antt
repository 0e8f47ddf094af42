use Rattle.std.proofs.Common.{◌≡◌, ◌+◌}
use Rattle.cancel_context.specs.Forest.{held_count, without}
use Rattle.arena_rows.specs.HeldChanges.{no_job}
use Rattle.arena_rows.proofs.JobsTold.{known_held, over_too}
use Rattle.arena_rows.proofs.Released.{context_told, released_rests}
use Rattle.arena_rows.proofs.parts.Parts.release.Goals as goal

pub returns : goal.returns
returns c = λ s rests.
    let a = c.args.self.now in
    let j = c.args.job in
    let h = c.requires.ended in
    let current = known_held a h.0 h.1 j h.2 in
    let over = over_too a h.0 h.1 s rests.holds j current h.3 in
    let gone = c.let_go.ensures.gone no_job in
    let told = context_told a s rests.holds j current over no_job in
    let count : held_count (without a.contexts (rests.holds.assigned.of_job j)) + 1 ≡ held_count a.contexts = rw (gone, told) at c.let_go.ensures.count in
    rw gone (released_rests a s rests.holds j current over rests.settled count no_job)
