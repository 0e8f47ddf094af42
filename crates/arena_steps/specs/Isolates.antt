-- When a slot's topmost row can make a region.
use Rattle.std.specs.Prelude.{◌≡◌, ℕ, Some}
use Rattle.job_language.specs.declared.instructions.Instr.TheVariants.{Isolate}
use Rattle.job_step.specs.declared.frames.Frame.{Frame}
use Rattle.job_step.specs.Frame.{instr_at}
use Rattle.tenant_model.specs.State.{State, row, job}
use Rattle.arena_rows.specs.Held.{Held}
use Rattle.arena_steps.specs.Frames.{FrameFits}

-- A frame is at an isolate of the program of row n's job.
abbrev pub IsAtIsolate : State → (n : ℕ) → Frame → (d p a b : ℕ) → Type 0
IsAtIsolate s n f d p a b = instr_at (job s.jobs (row s.rows n).job).program f ≡ Some (Isolate d p a b)

-- A row is on a slot, in some settled state that is held, which a frame at an isolate fits.
abbrev pub CanIsolate : Held → (slot : ℕ) → Frame → (p a b : ℕ) → Type 0
CanIsolate held slot f p a b = (s : State) × (n : ℕ) × (d : ℕ) × FrameFits held s slot n f × IsAtIsolate s n f d p a b
