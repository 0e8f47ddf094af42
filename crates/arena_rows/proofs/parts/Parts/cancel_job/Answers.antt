use Rattle.std.proofs.Common.{◌≡◌, ℕ, refl}
use Rattle.arena_rows.specs.Held.{Held}
use Rattle.arena_rows.specs.HeldChanges.{no_job, job_asked, job_changed, cancelled_work}
use Rattle.arena_rows.specs.HeldJobs.{IsCurrent}
use Rattle.arena_rows.specs.HeldReads.{HasKnown}
use Rattle.arena_rows.proofs.JobsTold.{known_held}
use Rattle.arena_rows.proofs.OneJob.{job_held, asked_holds}
use Rattle.arena_rows.proofs.parts.Parts.cancel_job.Goals as goal

current : (a : Held) (j : ℕ) → HasKnown a j → IsCurrent a.jobs j
current a j known = known_held a known.0 known.1 j known.2

pub ask_job-requires-clause-current : goal.ask_job-requires-clause-current
ask_job-requires-clause-current c = current c.args.self.now c.args.job c.requires

pub ask_job-requires-clause-held : goal.ask_job-requires-clause-held
ask_job-requires-clause-held c = λ d. job_held c.args.self.now c.requires.0 c.requires.1 c.args.job (current c.args.self.now c.args.job c.requires) d

pub returns : goal.returns
returns c = λ s is.
    let a = c.args.self.now in
    let asked = c.ask_job.ensures.asked no_job in
    let new : c.note_cancel.new.self ≡ job_changed (job_asked a c.args.job no_job) c.args.job cancelled_work no_job = rw asked at (c.note_cancel.ensures no_job) in
    rw new (asked_holds a s is c.args.job (current a c.args.job c.requires) cancelled_work no_job (rw asked at c.ask_job.ensures.count) refl refl refl refl (λ some. some))

pub note_cancel-requires : goal.note_cancel-requires
note_cancel-requires c = let asked = c.ask_job.ensures.asked no_job in rw asked (current c.args.self.now c.args.job c.requires)
