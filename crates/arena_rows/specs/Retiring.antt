-- All jobs of an arena retired, once no row is open, and one job released, once it has an outcome.
use Rattle.std.specs.Prelude.{◌≡◌, ◌≢◌, ℕ, ◌+◌, ◌<◌, ◌≤◌, true, false, List, [], Some, IsSome, get_or, length, remove}
use Rattle.std.specs.List.{list_any}
use Rattle.cancel_context.specs.Forest.{Forest, IsHeld, held_count, parent, without}
use Rattle.thread_cells.specs.Cells.{no_cells}
use Rattle.tenant_model.specs.declared.rows.Row.{Row}
use Rattle.tenant_model.specs.State.{State}
use Rattle.tenant_model.specs.Walks.{is_open}
use Rattle.tenant_model.specs.Asks.{has_outcome, known_job}
use Rattle.arena_rows.specs.declared.rows.CurrentJob.{CurrentJob}
use Rattle.arena_rows.specs.Held.{Held}
use Rattle.arena_rows.specs.HeldChanges.{index_of}
use Rattle.arena_rows.specs.HeldJobs.{held_job}
use Rattle.arena_rows.specs.Represents.{Holds, Rests}

-- The contexts that are held are those of the jobs from one on, and none is bound to another.
pub record HoldJobs (forest : Forest) (jobs : List CurrentJob) (from : ℕ) : Type 0 where
  pub each : (i : ℕ) (d : CurrentJob) → from ≤ i → i < length jobs → IsHeld forest (get_or jobs i d).context
  pub apart : (i k : ℕ) (d : CurrentJob) → from ≤ i → i < k → k < length jobs → (get_or jobs i d).context ≢ (get_or jobs k d).context
  pub bare : (c p : ℕ) → parent forest c ≡ Some p → ⊥
  pub count : held_count forest + from ≡ length jobs

-- the jobs retired, the cells gone, and an entry counted
abbrev pub all_retired : Held → Forest → Held
all_retired a forest = record a { contexts = forest; jobs = []; cells = no_cells; entries = a.entries + 1; epoch = a.epoch + 1 }

-- What is held after all jobs were retired, and no context is held any more.
pub record AreRetired (a b : Held) : Type 0 where
  pub forest : Forest
  pub none : held_count forest ≡ 0
  pub long : length forest ≡ length a.contexts
  pub held : b ≡ all_retired a forest

-- No row is open, in some settled state that is held.
abbrev pub IsIdle : Held → Type 0
IsIdle a = (s : State) × Rests a s × (list_any (λ (r : Row). is_open r.phase) s.rows ≡ false)

-- a job released, and an entry counted
abbrev pub job_released : Held → (job : ℕ) → CurrentJob → Held
job_released a j d = record a { contexts = without a.contexts (held_job a j d).context; jobs = remove a.jobs (index_of a j); entries = a.entries + 1 }

-- A job that is known has an outcome, in some state that is held.
abbrev pub HasOutcome : Held → (job : ℕ) → Type 0
HasOutcome a j = (s : State) × Holds a s × IsSome (known_job s j) × (has_outcome s.rows j ≡ true)
