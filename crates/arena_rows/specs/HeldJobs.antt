-- The jobs that are held, by their numbers.
use Rattle.std.specs.Prelude.{ℕ, ◌≡◌, ◌<◌, List, get_or, length, slice_index_or}
use Rattle.arena_rows.specs.declared.rows.CurrentJob.{CurrentJob}
use Rattle.arena_rows.specs.Held.{Held, NumbersRise, place_of}
use Rattle.arena_rows.specs.HeldChanges.{index_of}

-- the job of a number, or `d` if no such job is held
abbrev pub held_job : Held → (job : ℕ) → (d : CurrentJob) → CurrentJob
held_job a j d = slice_index_or a.jobs (index_of a j) d

-- A job of that number is among those that are held.
pub record IsCurrent (jobs : List CurrentJob) (j : ℕ) : Type 0 where
  pub order : NumbersRise jobs
  pub within : place_of jobs j < length jobs
  pub number : (d : CurrentJob) → (get_or jobs (place_of jobs j) d).number ≡ j
