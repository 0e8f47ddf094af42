-- Who waits for the outcomes of jobs.
use Rattle.std.specs.Prelude.{ℕ, ◌≡◌, ◌⊎◌, ◌&&◌, not, Bool, true, false, Option, Some, None, nat_lt, replicate, slice_set, if◌then◌else◌}
use Rattle.std.specs.List.{list_all}
use Rattle.job_language.specs.declared.answers.Status.{Status}
use Rattle.job_language.specs.declared.answers.Status.TheVariants.{Running}
use Rattle.tenant_record.specs.Cell.{CellData, state_of}
use Rattle.tenant_record.specs.Replayed.{status_of}
use Rattle.tenant_lock.specs.declared.awaited.AwaitedJobs.{AwaitedJobs}
use Rattle.tenant_lock.specs.declared.awaited.TheConstants.{NOTED}

abbrev pub is_running : Option Status → Bool
is_running (Some Running) = true
is_running s = false

-- Is the job there without an outcome, and has nobody to stop?
abbrev pub is_open : CellData → (is_over : Bool) → ℕ → Bool
is_open c is_over job = not is_over && is_running (status_of (state_of c) job)

abbrev pub is_open_if_any : CellData → (is_over : Bool) → Option ℕ → Bool
is_open_if_any c is_over None = true
is_open_if_any c is_over (Some job) = is_open c is_over job

-- Has who sleeps for a noted job to sleep?
abbrev pub are_open : CellData → (is_over : Bool) → Option AwaitedJobs → Bool
are_open c is_over None = true
are_open c is_over (Some jobs) = list_all (is_open_if_any c is_over) jobs.noted

abbrev pub has_others : Option AwaitedJobs → Bool
has_others None = false
has_others (Some jobs) = jobs.others

abbrev pub no_jobs : AwaitedJobs
no_jobs = record { noted = replicate NOTED None; others = false }

abbrev pub jobs_of : Option AwaitedJobs → AwaitedJobs
jobs_of None = no_jobs
jobs_of (Some jobs) = jobs

-- the jobs, with that of a seat in its place; that of a seat without a place is among the others
abbrev pub added : AwaitedJobs → (seat job : ℕ) → AwaitedJobs
added jobs seat job = if nat_lt seat NOTED then record jobs { noted = slice_set jobs.noted seat (Some job) } else record jobs { others = true }

-- Either all who sleep for jobs may look again, and are forgotten until they sleep again; or nothing is forgotten, those who
-- are noted have to sleep, and after an entry there are no others. They look again only if one who is noted need not sleep,
-- or if there are others and an entry was made.
pub record AreWaitersTold (c : CellData) (is_over is_entry : Bool) (before : Option AwaitedJobs) (told : Bool) (after : Option AwaitedJobs) : Type 0 where
  pub all : told ≡ true → after ≡ None
  pub cause : told ≡ true → (are_open c is_over before ≡ false) ⊎ ((is_entry ≡ true) × (has_others before ≡ true))
  pub kept : told ≡ false → after ≡ before
  pub sleep : told ≡ false → are_open c is_over before ≡ true
  pub others : told ≡ false → is_entry ≡ true → has_others before ≡ false
