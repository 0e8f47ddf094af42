use Rattle.std.proofs.Common.{◌≡◌, Bool, true, false, refl}
use Rattle.std.specs.Prelude.{is_some, ◌||◌}
use Rattle.tenant_model.specs.State.{row, job}
use Rattle.tenant_model.specs.Changes.{first_fault}
use Rattle.arena_rows.specs.HeldChanges.{no_job, job_asked, job_changed, with_fault}
use Rattle.arena_rows.specs.HeldJobs.{IsCurrent}
use Rattle.arena_rows.proofs.FaultEnds.{some_fault}
use Rattle.arena_rows.proofs.OneJob.{job_held, asked_holds}
use Rattle.arena_rows.proofs.parts.Parts.fault_job.Goals as goal

or_true : (b : Bool) → (b || true) ≡ true
or_true true = refl
or_true false = refl

pub ask_job-requires-clause-held : goal.ask_job-requires-clause-held
ask_job-requires-clause-held c = λ d.
    let e = c.top_entry.ensures in
    job_held c.args.self.now c.requires.0 c.requires.2 c.top_entry.result.now.job e.current d

pub returns-clause-holds : goal.returns-clause-holds
returns-clause-holds c = λ s n is on_top.
    let a = c.args.self.now in
    let e = c.top_entry.ensures in
    let its_job = (e.entry s n is on_top).1.job in
    let current : IsCurrent a.jobs (row s.rows n).job = rw its_job at e.current in
    let f = with_fault c.args.fault in
    let asked = rw its_job at (c.ask_job.ensures.asked no_job) in
    let count = rw asked at c.ask_job.ensures.count in
    let new : c.note_fault.new.self ≡ job_changed (job_asked a (row s.rows n).job no_job) (row s.rows n).job f no_job = rw (its_job, asked) at (c.note_fault.ensures no_job) in
    let w = job s.jobs (row s.rows n).job in
    let cancelled : (w.cancelled || is_some (first_fault w.fault c.args.fault)) ≡ true = rw (some_fault w.fault c.args.fault) (or_true w.cancelled) in
    rw new (asked_holds a s is (row s.rows n).job current f no_job count cancelled refl refl refl (λ some. some_fault w.fault c.args.fault))

pub note_fault-requires : goal.note_fault-requires
note_fault-requires c = let asked = c.ask_job.ensures.asked no_job in rw asked c.top_entry.ensures.current

pub returns-clause-forest : goal.returns-clause-forest
returns-clause-forest c = rw (c.note_fault.ensures no_job) c.ask_job.ensures.forest
