-- A private run: what a frame does between two shared instructions.
use Rattle.std.specs.Prelude.{ℕ, zero, suc, ◌+◌, List, Option, Some, None}
use Rattle.job_language.specs.declared.instructions.Instr.{Instr}
use Rattle.job_step.specs.declared.frames.Frame.{Frame}
use Rattle.job_step.specs.declared.runs.Run.{Run}
use Rattle.job_step.specs.declared.runs.Stop.{Stop}
use Rattle.job_step.specs.declared.runs.Stop.TheVariants.{Shared, Yield, Fault}
use Rattle.job_step.specs.declared.effects.Effect.{Effect}
use Rattle.job_step.specs.declared.effects.Effect.TheVariants.{Moves, DividesByZero, IsShared}
use Rattle.job_step.specs.Frame.{instr_at, effect}

-- the effect of the next instruction; a frame past its procedure's end has none
abbrev pub effect_at : Option Instr → (slot width : ℕ) → Frame → Effect
effect_at (Some i) slot width f = effect i slot width f
effect_at None slot width f = IsShared

abbrev pub stop_at : Option Instr → Stop
stop_at (Some i) = Shared i
stop_at None = Yield

abbrev pub run_on : (start f : Frame) (c : ℕ) → Effect → Option Instr → (Frame → Run) → Run
run_on start f c (Moves g) i next = next g
run_on start f c DividesByZero i next = record { start = start; end = f; count = c + 1; stop = Fault }
run_on start f c IsShared i next = record { start = start; end = f; count = c; stop = stop_at i }

-- a run of at most `left` more instructions, after c of them
unfoldable pub run_for : (left : ℕ) → List (List Instr) → (slot width : ℕ) (start : Frame) (c : ℕ) → Frame → Run
run_for zero procs slot width start c f = record { start = start; end = f; count = c; stop = Yield }
run_for (suc left) procs slot width start c f =
    run_on start f c (effect_at (instr_at procs f) slot width f) (instr_at procs f) (run_for left procs slot width start (c + 1))

-- the run of a frame on a slot, in an arena of `width` slots
abbrev pub run_of : List (List Instr) → (slot width : ℕ) → Frame → Run
run_of procs slot width f = run_for 1000 procs slot width f 0 f
