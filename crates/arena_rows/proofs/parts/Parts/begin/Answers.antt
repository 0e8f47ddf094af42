use Rattle.std.proofs.Common.{length, ap, arith}
use Rattle.arena_rows.specs.Held.{Held}
use Rattle.arena_rows.proofs.Capacity.{row_room}
use Rattle.arena_rows.proofs.NewSettled.{jobs_most}
use Rattle.arena_rows.proofs.parts.Parts.begin.Goals as goal

pub overflow_add-self : goal.overflow_add-self
overflow_add-self c =
    let rests = c.requires.rests in
    let made = ap (λ (h : Held). h.made_jobs) c.self.view_is in
    omega (arith, made, jobs_most c.args.self.now rests.0 rests.1.holds, c.requires.few)

pub bind-context-requires-clause-room : goal.bind-context-requires-clause-room
bind-context-requires-clause-room c =
    let rests = c.requires.rests in
    let contexts = ap (λ (h : Held). h.contexts) c.self.view_is in
    rw contexts (row_room c.args.self.now rests.0 rests.1.holds c.requires.free)
