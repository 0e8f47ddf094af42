-- A worked example: a region, then a task that another slot runs, and what the row that made them is answered.
use Rattle.std.specs.Prelude.{◌≡◌, pos, List, [], ◌∷◌, Some, None, Box, map}
use Rattle.std.specs.Global.{Global}
use Rattle.job_language.specs.declared.jobs.Job.{Job}
use Rattle.job_language.specs.declared.requests.Request.TheVariants.{Execute}
use Rattle.job_language.specs.declared.steps.Step.{Step}
use Rattle.job_language.specs.declared.steps.Step.TheVariants.{Ask, Arrive, Advance}
use Rattle.job_language.specs.declared.tenants.Isolation.TheVariants.{Exact}
use Rattle.job_step.specs.Frame.{new_frame}
use Rattle.source_language.specs.declared.syntax.Operator.TheVariants.{Plus}
use Rattle.source_language.specs.declared.syntax.Expr.TheVariants.{Number, Variable, Two'}
use Rattle.source_language.specs.declared.syntax.Maker.TheVariants.{Spawn, Isolate}
use Rattle.source_language.specs.declared.syntax.Stmt.TheVariants.{Then', Make, Wait, Return}
use Rattle.source_language.specs.declared.syntax.Function.{Function}
use Rattle.source_language.specs.Meaning.{Spawns, Isolates, Waits}
use Rattle.job_compiler.specs.Code.{function_code}
use Rattle.job_compiler.specs.Programs.{IsCompiledProgram}
use Rattle.tenant_model.specs.State.{State, empty}
use Rattle.tenant_model.specs.Worked.{tenant, worked_job}
use Rattle.source_rows.specs.Tasks.{new_past}
use Rattle.source_rows.specs.Answering.{with_numbers, past_in}

-- a parameter of a tree's boxes
abbrev pub Places : Type 0
Places = Box (Unit {0}) Global

-- `sum = isolate add(2, 3); spawn group 0: add(sum, 1); sum = wait group 0; return sum`
abbrev pub summing : Places → Function
summing g =
    record {
      variables = 3;
      body = Then' g (Make (Isolate 2) 1 (Number (pos 2)) (Number (pos 3))) g
          (Then' g (Make (Spawn 0) 1 (Variable 2) (Number (pos 1))) g (Then' g (Wait (Some 2) None 0) g (Return (Variable 2))));
    }

-- `return first + second`
abbrev pub adding : Places → Function
adding g = record { variables = 2; body = Return (Two' Plus g (Variable 0) g (Variable 1)) }

abbrev pub functions : Places → List Function
functions g = summing g ∷ adding g ∷ []

abbrev pub summing_job : Places → Job
summing_job g = worked_job (map function_code (functions g)) (pos 0) (pos 0) 1000

-- The job is placed on slot 0, where its root makes the region (row 2) and then spawns the task (row 3). Slot 1 runs the task, and then the root's wait passes.
abbrev pub steps : Places → List Step
steps g = Ask (Execute (summing_job g)) ∷ Advance 0 ∷ Advance 0 ∷ Advance 0 ∷ Arrive 1 ∷ Advance 1 ∷ Advance 0 ∷ []

abbrev pub two_slots : State
two_slots = empty (tenant 2 1 Exact)

abbrev pub SummingIsCompiled : Type 0
SummingIsCompiled = (g : Places) → IsCompiledProgram (functions g) (summing_job g).program

unfoldable pub RootIsAnswered : Type 0
RootIsAnswered = (g : Places) → past_in two_slots (steps g) 1 ≡ record {
  new = new_frame 0 (pos 0) (pos 0);
  answers = with_numbers (Isolates 1 (pos 2) (pos 3)) (pos 5, pos 0) ∷ with_numbers (Spawns 0 1 (pos 5) (pos 1)) (pos 0, pos 0) ∷ with_numbers (Waits 0) (pos 6, pos 1) ∷ [];
}

-- Neither the region nor the task does an operation that is answered.
unfoldable pub TasksAreMade : Type 0
TasksAreMade =
    (g : Places) → (past_in two_slots (steps g) 2 ≡ new_past (new_frame 1 (pos 2) (pos 3))) × (past_in two_slots (steps g) 3 ≡ new_past (new_frame 1 (pos 5) (pos 1)))
