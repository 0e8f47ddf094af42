-- What a step of a slot asks of its frame.
use Rattle.std.specs.Prelude.{◌≡◌, ◌<◌, ℕ, false, Some, length}
use Rattle.job_step.specs.declared.frames.Frame.{Frame}
use Rattle.job_step.specs.declared.frames.TheConstants.{LAST_PLACE}
use Rattle.tenant_model.specs.State.{State, row}
use Rattle.tenant_model.specs.Walks.{top, is_pending}
use Rattle.arena_rows.specs.Held.{Held}
use Rattle.arena_rows.specs.Represents.{Rests}

-- row n is on a slot, and a frame has as many registers as its own
pub record FrameFits (a : Held) (s : State) (slot n : ℕ) (frame : Frame) : Type 0 where
  pub rests : Rests a s
  pub on_top : top s.rows slot ≡ Some n
  pub same : length frame.registers ≡ length (row s.rows n).frame.registers

-- A row is on a slot, in some settled state that is held, which a frame fits.
abbrev pub CanMove : Held → (slot : ℕ) → Frame → Type 0
CanMove a slot frame = (s : State) × (n : ℕ) × FrameFits a s slot n frame

-- And no member of a group of that row is open.
abbrev pub CanPass : Held → (slot : ℕ) → Frame → (group : ℕ) → Type 0
CanPass a slot frame g = (s : State) × (n : ℕ) × FrameFits a s slot n frame × (is_pending s.rows n g ≡ false)

-- What an instruction asks that moves its row on to the next place: the frame fits the row on top of the slot, the step
-- has room for its entry, and the frame is not at the last place that a procedure can have.
pub record CanStep (a : Held) (slot : ℕ) (frame : Frame) : Type 0 where
  pub fits : CanMove a slot frame
  pub room : a.entries < a.config.steps
  pub place : frame.place < LAST_PLACE
