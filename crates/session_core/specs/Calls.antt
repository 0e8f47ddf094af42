-- Relations of the calls of some doors: what each may answer and lead to.
use Rattle.std.specs.Prelude.{ℕ, Bool, List, Option, Result}
use Rattle.job_language.specs.declared.errors.Error.{Error}
use Rattle.job_language.specs.declared.requests.Request.{Request}
use Rattle.nested_wait.specs.declared.attending.Attended.{Attended}
use Rattle.session_core.specs.declared.doors.Answered.{Answered}

-- the tenant that a name may have
abbrev pub Finds : Type 0 → Type 1
Finds D = D → List ℕ → Option ℕ → Type 0

-- binding a tenant, by its number and its name, or the error of a hello that is refused
abbrev pub Binds : Type 0 → Type 1
Binds D = D → ℕ → List ℕ → Result (Unit {0}) Error → D → Type 0

abbrev pub Asks : Type 0 → Type 1
Asks D = D → Request → Answered → D → Type 0

-- a pause for a job, and whether it says to stop
abbrev pub Waits : Type 0 → Type 1
Waits D = D → ℕ → Bool → D → Type 0

-- attending the slot of a job until it is free
abbrev pub AttendsTo : Type 0 → Type 1
AttendsTo D = Attended → D → D → Type 0
