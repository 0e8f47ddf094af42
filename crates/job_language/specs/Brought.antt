-- The job that a request brings.
use Rattle.std.specs.Prelude.{Option, Some, None, IfSome, IsSome}
use Rattle.job_language.specs.Program.{IsValidProgram}
use Rattle.job_language.specs.declared.jobs.Job.{Job}
use Rattle.job_language.specs.declared.requests.Request.{Request}
use Rattle.job_language.specs.declared.requests.Request.TheVariants.{Submit, Execute}
use Rattle.job_language.specs.declared.steps.Step.{Step}
use Rattle.job_language.specs.declared.steps.Step.TheVariants as step

abbrev pub job_of : Request → Option Job
job_of (Submit j) = Some j
job_of (Execute j) = Some j
job_of r = None

-- its program is valid
abbrev pub BringsValid : Request → Type 0
BringsValid r = IfSome (job_of r) (λ j. IsValidProgram j.program)

-- the step is an ask that brings a job
abbrev pub StepBrings : Step → Type 0
StepBrings (step.Ask r) = IsSome (job_of r)
StepBrings (step.Arrive slot) = ⊥
StepBrings (step.Advance slot) = ⊥
