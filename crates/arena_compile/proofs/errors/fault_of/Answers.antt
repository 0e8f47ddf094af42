use Rattle.source_language.specs.declared.syntax.Function.{Function}
use Rattle.job_language.specs.Program.{IsValidProc}
use Rattle.job_compiler.specs.declared.errors.Refusal.{Refusal}
use Rattle.job_compiler.specs.Code.{function_code}
use Rattle.job_compiler.specs.Refusals.{HasCode, IsRefused}
use Rattle.register_choice.specs.Refusals.{IsWithoutChoice}
use Rattle.arena_compile.specs.Jobs.{NeedsMore}
use Rattle.arena_compile.proofs.Places.{has_too}
use Rattle.arena_compile.proofs.errors.fault_of.Goals as goal

abbrev HasNoRegisters : Function → Type 0
HasNoRegisters f = HasCode f × (¬ IsValidProc (function_code f))

pub returns-in-Refused : goal.returns-in-Refused
returns-in-Refused c = λ gs text at. (
  c.args.number,
  has_too gs text c.args.number c.args.place (λ f. IsWithoutChoice f c.args.refusal) (λ f. (r : Refusal) × IsRefused f r)
      (λ f no. (c.in-Refused.field-0, rw c.in-Refused.is at no)) at,
)

pub returns-in-Crowded : goal.returns-in-Crowded
returns-in-Crowded c = λ gs text at. has_too gs text c.args.number c.args.place (λ f. IsWithoutChoice f c.args.refusal) (NeedsMore c.in-Crowded.crowd) (λ f no. rw c.in-Crowded.is at no) at

pub returns-in-NoChoice : goal.returns-in-NoChoice
returns-in-NoChoice c = λ gs text at. (
  c.args.number,
  has_too gs text c.args.number c.args.place (λ f. IsWithoutChoice f c.args.refusal) HasNoRegisters
      (λ f no. rw c.in-NoChoice.is at no) at,
)
