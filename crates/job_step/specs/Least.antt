-- A private run is the least number of instructions after which a frame stops: none of those before it does.
use Rattle.std.specs.Prelude.{ℕ, zero, suc, ◌≡◌, ◌-◌, ◌≤◌, ◌⊎◌, List, Option, Some, None, option_and_then}
use Rattle.job_language.specs.declared.instructions.Instr.{Instr}
use Rattle.job_step.specs.declared.effects.Effect.{Effect}
use Rattle.job_step.specs.declared.effects.Effect.TheVariants.{Moves, DividesByZero, IsShared}
use Rattle.job_step.specs.declared.frames.Frame.{Frame}
use Rattle.job_step.specs.declared.runs.Run.{Run}
use Rattle.job_step.specs.declared.runs.Stop.{Stop}
use Rattle.job_step.specs.declared.runs.Stop.TheVariants.{Shared, Yield, Fault}
use Rattle.job_step.specs.Frame.{instr_at, effect}

abbrev pub moved_to : Effect → Option Frame
moved_to (Moves g) = Some g
moved_to e = None

-- a frame after its next instruction, unless that stops it
abbrev pub next_of : List (List Instr) → (slot width : ℕ) → Frame → Option Frame
next_of procs slot width f = option_and_then (λ i. moved_to (effect i slot width f)) (instr_at procs f)

-- and after n instructions, unless one of them stops it
abbrev pub frame_after : List (List Instr) → (slot width : ℕ) → Frame → ℕ → Option Frame
frame_after procs slot width f zero = Some f
frame_after procs slot width f (suc k) = option_and_then (next_of procs slot width) (frame_after procs slot width f k)

-- how many instructions of a run moved the frame; a division by 0 counts and does not
abbrev pub moves_of : (count : ℕ) → Stop → ℕ
moves_of count Fault = count - 1
moves_of count stop = count

-- why the frame at the end of a run stopped there
abbrev pub StopsAt : List (List Instr) → (slot width count : ℕ) → Frame → Stop → Type 0
StopsAt procs slot width count f (Shared i) = (instr_at procs f ≡ Some i) × (effect i slot width f ≡ IsShared)
StopsAt procs slot width count f Fault = (1 ≤ count) × (i : Instr) × (instr_at procs f ≡ Some i) × (effect i slot width f ≡ DividesByZero)
StopsAt procs slot width count f Yield = (count ≡ 1000) ⊎ (instr_at procs f ≡ None)

-- r is the least run of the frame.
pub record IsLeastRun (procs : List (List Instr)) (slot width : ℕ) (f : Frame) (r : Run) : Type 0 where
  pub start : r.start ≡ f
  pub most : r.count ≤ 1000
  pub end : frame_after procs slot width f (moves_of r.count r.stop) ≡ Some r.end
  pub stop : StopsAt procs slot width r.count r.end r.stop
