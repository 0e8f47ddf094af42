-- How the code executes shared instructions, what a run costs, and which advances make a row.
use Rattle.std.specs.Prelude.{ℕ, ◌+◌, ◌≡◌, if◌then◌else◌, Bool, true, false, Option, Some, None, IsSome}
use Rattle.job_language.specs.declared.instructions.Instr.{Instr}
use Rattle.job_language.specs.declared.instructions.Instr.TheVariants.{Spawn, Post, Isolate}
use Rattle.job_language.specs.Brought.{job_of}
use Rattle.job_language.specs.declared.steps.Step.{Step}
use Rattle.job_language.specs.declared.steps.Step.TheVariants as step
use Rattle.job_step.specs.declared.runs.Stop.{Stop}
use Rattle.job_step.specs.declared.runs.Stop.TheVariants.{Shared, Yield, Fault}
use Rattle.tenant_model.specs.State.{State}
use Rattle.tenant_model.specs.Walks.{top}
use Rattle.tenant_model.specs.Advance.{is_blocked, run_on}

-- What a run costs: its private instructions, and the shared one that the row executes after them.
abbrev pub cost_of : State → (n count : ℕ) → Stop → ℕ
cost_of s n count (Shared i) = if is_blocked s n i then count else count + 1
cost_of s n count Yield = count
cost_of s n count Fault = count

-- Does the instruction make a row?
abbrev pub makes_row : Instr → Bool
makes_row (Spawn g p a b) = true
makes_row (Post p a b) = true
makes_row (Isolate d p a b) = true
makes_row i = false

-- The run stops at an instruction that makes a row.
abbrev pub StopsToMake : Stop → Type 0
StopsToMake (Shared i) = makes_row i ≡ true
StopsToMake Yield = ⊥
StopsToMake Fault = ⊥

abbrev pub TopMakesRow : State → (slot : ℕ) → Option ℕ → Type 0
TopMakesRow s slot None = ⊥
TopMakesRow s slot (Some n) = StopsToMake (run_on s slot n).stop

-- An advance of the slot makes a row: only then does it take memory.
abbrev pub MakesRow : State → (slot : ℕ) → Type 0
MakesRow s slot = TopMakesRow s slot (top s.rows slot)

-- The step brings a job or makes a row: no other takes memory.
abbrev pub TakesMemory : State → Step → Type 0
TakesMemory s (step.Ask r) = IsSome (job_of r)
TakesMemory s (step.Arrive slot) = ⊥
TakesMemory s (step.Advance slot) = MakesRow s slot
