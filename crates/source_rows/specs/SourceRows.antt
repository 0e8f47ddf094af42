-- Rows of jobs whose programs are compiled from functions of the source.
use Rattle.std.specs.Prelude.{◌≡◌, ℕ, ◌≤◌, pos, List, Some, IfSome, length, slice_index_or, FitsSigned}
use Rattle.std.specs.Int.{w64}
use Rattle.job_language.specs.Brought.{job_of}
use Rattle.job_language.specs.declared.instructions.Instr.{Instr}
use Rattle.job_language.specs.declared.requests.Request.{Request}
use Rattle.job_language.specs.declared.steps.Step.{Step}
use Rattle.job_language.specs.declared.steps.Step.TheVariants.{Ask}
use Rattle.job_step.specs.declared.frames.Frame.{Frame}
use Rattle.tenant_model.specs.declared.rows.Phase.{Phase}
use Rattle.tenant_model.specs.declared.rows.Phase.TheVariants.{Unstarted, Live, Done}
use Rattle.tenant_model.specs.State.{State, row, job}
use Rattle.tenant_model.specs.Walks.{top}
use Rattle.tenant_model.specs.Advance.{run_on}
use Rattle.tenant_model.specs.Solo.{after}
use Rattle.source_language.specs.declared.syntax.Function.{Function}
use Rattle.job_compiler.specs.Programs.{IsCompiledProgram}
use Rattle.job_compiler.specs.Runs.{RunFollows}
use Rattle.source_rows.specs.Tasks.{Past, new_past, DoesTask, ReturnsTask, BeginsTask}
use Rattle.source_rows.specs.Answering.{past_in}

-- the job that a request brings has arguments of 64 bits
abbrev pub BringsNumbers : Request → Type 0
BringsNumbers r = IfSome (job_of r) (λ j. (k : ℕ) → FitsSigned w64 (slice_index_or j.args k (pos 0)))

abbrev pub StepBringsNumbers : Step → Type 0
StepBringsNumbers (Ask r) = BringsNumbers r
StepBringsNumbers x = Unit {0}

-- A row that has not started begins a task, with its first frame; one on a slot does there what a task does that has been through the same; and one that returned a value returned such a task's.
abbrev pub FollowsSource : List Function → List (List Instr) → (width : ℕ) → Frame → Past → Phase → Type 0
FollowsSource fs procs width f past Unstarted = BeginsTask fs procs width f × (past ≡ new_past f)
FollowsSource fs procs width f past (Live slot h) = DoesTask fs procs slot width f past
FollowsSource fs procs width f past (Done v) = ReturnsTask fs width f past v
FollowsSource fs procs width f past closed = Unit {0}

-- After steps xs of a tenant that begins as s, each row of a job whose program is compiled from functions follows the source, with what it has been through in these steps.
abbrev pub RowsFollowSource : State → List Step → Type 0
RowsFollowSource s xs =
    (n : ℕ) (fs : List Function) → 1 ≤ n → n ≤ length (after s xs).rows → IsCompiledProgram fs (job (after s xs).jobs (row (after s xs).rows n).job).program
    → FollowsSource fs (job (after s xs).jobs (row (after s xs).rows n).job).program (after s xs).config.slots (row (after s xs).rows n).frame (past_in s xs n) (row (after s xs).rows n).phase

-- The topmost row n of a slot does what a task does, and the private run that the slot's next advance makes of it ends where the task goes on.
pub record RunFollowsSource (s : State) (xs : List Step) (slot n : ℕ) (fs : List Function) (procs : List (List Instr)) : Type 0 where
  pub task : DoesTask fs procs slot (after s xs).config.slots (row (after s xs).rows n).frame (past_in s xs n)
  pub run : RunFollows procs slot (after s xs).config.slots task.point (run_on (after s xs) slot n)

abbrev pub AdvancesFollowSource : State → List Step → Type 0
AdvancesFollowSource s xs =
    (slot n : ℕ) (fs : List Function) → top (after s xs).rows slot ≡ Some n → IsCompiledProgram fs (job (after s xs).jobs (row (after s xs).rows n).job).program
    → RunFollowsSource s xs slot n fs (job (after s xs).jobs (row (after s xs).rows n).job).program
