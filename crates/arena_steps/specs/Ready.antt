-- When a slot's topmost row can execute the instruction that it is at.
use Rattle.std.specs.Prelude.{◌≡◌, ℕ, false, Some}
use Rattle.job_language.specs.declared.instructions.Instr.{Instr}
use Rattle.job_language.specs.declared.instructions.Instr.TheVariants.{Wait}
use Rattle.job_step.specs.declared.frames.Frame.{Frame}
use Rattle.job_step.specs.Frame.{instr_at}
use Rattle.tenant_model.specs.State.{State, row, job}
use Rattle.tenant_model.specs.Walks.{is_pending}
use Rattle.arena_rows.specs.Held.{Held}
use Rattle.arena_steps.specs.Frames.{FrameFits}

-- Row n is on a slot, with a frame that fits it and is at an instruction. At a wait no member of the group is open.
pub record IsReady (a : Held) (s : State) (slot n : ℕ) (frame : Frame) (i : Instr) : Type 0 where
  pub fits : FrameFits a s slot n frame
  pub here : instr_at (job s.jobs (row s.rows n).job).program frame ≡ Some i
  pub passes : (d e g : ℕ) → i ≡ Wait d e g → is_pending s.rows n g ≡ false

-- A row is on a slot so, in some settled state that is held.
abbrev pub CanExecute : Held → (slot : ℕ) → Frame → Instr → Type 0
CanExecute a slot frame i = (s : State) × (n : ℕ) × IsReady a s slot n frame i
