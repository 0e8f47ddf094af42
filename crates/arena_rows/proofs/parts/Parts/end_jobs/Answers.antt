use Rattle.std.proofs.Common.{ap, ◌∙◌}
use Rattle.arena_rows.specs.Held.{Held}
use Rattle.arena_rows.proofs.Retired.{hold_jobs, all_free}
use Rattle.arena_rows.proofs.parts.Parts.end_jobs.Goals as goal

pub release_jobs-requires : goal.release_jobs-requires
release_jobs-requires c =
    let a = c.args.self.now in
    let idle = c.requires.idle in
    let contexts = ap (λ (h : Held). h.contexts) c.self.view_is in
    let jobs = c.deref.ensures.value ∙ ap (λ (h : Held). h.jobs) c.self.view_is in
    rw (contexts, jobs) (hold_jobs a idle.0 idle.1.holds (all_free a idle))
