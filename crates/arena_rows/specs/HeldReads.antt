-- How far the jobs are that an arena holds, and which slot is free.
use Rattle.std.specs.Prelude.{ℕ, Bool, List, not, ◌&&◌, ◌||◌, ◌==◌, find, length, nat_lt, if◌then◌else◌, Option, Some, None, IsSome, option_and_then, slice_get}
use Rattle.std.specs.List.{range_with_len}
use Rattle.std.specs.Option.{option_map, option_map_or}
use Rattle.job_language.specs.declared.answers.Status.{Status}
use Rattle.job_language.specs.declared.answers.Status.TheVariants.{Running, Cancelled, Complete, Fault}
use Rattle.nest_stack.specs.Nest.{stack}
use Rattle.tenant_model.specs.declared.rows.Row.{Row}
use Rattle.tenant_model.specs.declared.works.Work.{Work}
use Rattle.tenant_model.specs.Walks.{is_job_cancelled}
use Rattle.tenant_model.specs.Asks.{has_outcome, known_job}
use Rattle.tenant_model.specs.State.{State}
use Rattle.arena_rows.specs.declared.rows.CurrentJob.{CurrentJob}
use Rattle.arena_rows.specs.Held.{Held}
use Rattle.arena_rows.specs.Represents.{Holds}
use Rattle.arena_rows.specs.HeldChanges.{index_of}

-- how far a job is that is held
abbrev pub held_status : CurrentJob → Status
held_status it = if nat_lt 0 it.open_rows then Running else option_map_or (λ fault. Fault fault) it.work.fault (if it.work.cancelled then Cancelled else Complete it.value)

-- the job, if that is its number
abbrev pub of_number : (job : ℕ) → CurrentJob → Option CurrentJob
of_number j it = if it.number == j then Some it else None

-- the job of a number, if it is held
abbrev pub known_current : Held → (job : ℕ) → Option CurrentJob
known_current a j = option_and_then (of_number j) (slice_get a.jobs (index_of a j))

-- the number of the first job that is held of those with a number, or a greater one
abbrev pub first_from : Held → (number : ℕ) → Option ℕ
first_from a n = option_map (λ (it : CurrentJob). it.number) (slice_get a.jobs (index_of a n))

-- how far the job of a number is, if it is held
abbrev pub known_status : Held → (job : ℕ) → Option Status
known_status a j = option_map held_status (known_current a j)

-- the least reserved slot with nothing on it
abbrev pub least_empty : Held → Option ℕ
least_empty a = find (λ slot. length (stack a.nests slot) == 0) (range_with_len 0 a.config.reserved)

-- Would a cancel of a job be its first? It was not cancelled and has no outcome.
abbrev pub is_first_cancel : List Row → (job : ℕ) → Work → Bool
is_first_cancel rows j w = not (is_job_cancelled w || has_outcome rows j)

-- the same of a job that is held
abbrev pub cancels : CurrentJob → Bool
cancels it = nat_lt 0 it.open_rows && not (is_job_cancelled it.work)

abbrev pub known_cancels : Held → (job : ℕ) → Option Bool
known_cancels a j = option_map cancels (known_current a j)

-- A job is known, in some state that is held.
abbrev pub HasKnown : Held → (job : ℕ) → Type 0
HasKnown a j = (s : State) × Holds a s × IsSome (known_job s j)
