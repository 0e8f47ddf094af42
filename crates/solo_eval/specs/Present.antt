-- What the code of a step stands on: rows and jobs that are there, and room for an entry.
use Rattle.std.specs.Prelude.{ℕ, ◌≡◌, ◌<◌, ◌≤◌, false, List, length}
use Rattle.job_step.specs.declared.frames.Frame.{Frame}
use Rattle.job_step.specs.declared.frames.TheConstants.{LAST_PLACE}
use Rattle.tenant_model.specs.State.{State}
use Rattle.tenant_model.specs.Changes.{is_full}

-- One of the items has that number; the first has 1.
pub record IsNumberIn {A : Type 0} (items : List A) (number : ℕ) : Type 0 where
  pub from : 1 ≤ number
  pub to : number ≤ length items

-- The history has room for another entry.
abbrev pub HasRoom : State → Type 0
HasRoom s = is_full s ≡ false

-- Row n can continue at the next place of its frame, in a step that is an entry.
pub record CanMove (s : State) (n : ℕ) (frame : Frame) : Type 0 where
  pub room : HasRoom s
  pub row : IsNumberIn s.rows n
  pub place : frame.place < LAST_PLACE
