use Rattle.std.proofs.Common.{ap, ◌∙◌}
use Rattle.tenant_model.specs.Walks.{is_job_cancelled}
use Rattle.arena_rows.specs.HeldChanges.{no_job}
use Rattle.arena_rows.proofs.Counters.{work_told}
use Rattle.arena_rows.proofs.parts.Parts.is_job_cancelled.Goals as goal

pub returns : goal.returns
returns c = λ s n is on_top.
    let its_job = (c.top_entry.ensures.entry s n is on_top).1.job in
    let told = rw its_job at (c.work_of.ensures no_job) in
    c.is_cancelled.ensures ∙ ap is_job_cancelled (told ∙ work_told c.args.self.now s is c.args.slot n on_top no_job)
