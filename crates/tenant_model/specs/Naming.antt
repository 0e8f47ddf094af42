-- A valid program is never stuck: the frame of every row names an instruction.
use Rattle.std.specs.Prelude.{ℕ, ◌<◌, ◌≤◌, List, [], length, slice_index_or}
use Rattle.job_language.specs.declared.instructions.Instr.{Instr}
use Rattle.job_language.specs.declared.steps.Step.{Step}
use Rattle.job_language.specs.declared.steps.Step.TheVariants.{Ask}
use Rattle.job_language.specs.Brought.{BringsValid}
use Rattle.job_language.specs.Program.{IsValidProgram}
use Rattle.job_step.specs.declared.frames.Frame.{Frame}
use Rattle.tenant_model.specs.State.{State, row, job}

-- The frame names an instruction of the program.
pub record Stands (procs : List (List Instr)) (f : Frame) : Type 0 where
  pub procedure : f.procedure < length procs
  pub place : f.place < length (slice_index_or procs f.procedure [])

-- No row of a state is stuck, started or not.
abbrev pub AllStand : State → Type 0
AllStand s = (n : ℕ) → 1 ≤ n → n ≤ length s.rows → Stands (job s.jobs (row s.rows n).job).program (row s.rows n).frame

-- Nor will it be: the programs of its jobs are valid.
pub record IsUnstuck (s : State) : Type 0 where
  pub programs : (j : ℕ) → 1 ≤ j → j ≤ length s.jobs → IsValidProgram (job s.jobs j).program
  pub frames : AllStand s

abbrev pub StepBringsValid : Step → Type 0
StepBringsValid (Ask r) = BringsValid r
StepBringsValid x = Unit
