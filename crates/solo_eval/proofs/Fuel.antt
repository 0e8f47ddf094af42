-- A row whose job lacks the fuel for a run.
use Rattle.std.proofs.Common.{◌≡◌, ◌+◌, ℕ, Bool, true, false, refl, if◌then◌else◌}
use Rattle.job_language.specs.declared.errors.JobFault.TheVariants as fault
use Rattle.job_step.specs.declared.frames.Frame.{Frame}
use Rattle.job_step.specs.declared.runs.Stop.{Stop}
use Rattle.job_step.specs.declared.runs.Stop.TheVariants.{Shared, Yield, Fault}
use Rattle.tenant_model.specs.State.{State, row}
use Rattle.tenant_model.specs.Advance.{after_run, is_blocked, is_poor, move_on, pay, with_fuel}
use Rattle.tenant_model.specs.Changes.{faults}
use Rattle.tenant_model.specs.Shared.{execute}
use Rattle.job_language.specs.declared.answers.Moved.{Moved}
use Rattle.solo_eval.specs.Execution.{cost_of}

module _ (s : State) (slot n count : ℕ) (f : Frame) where
  abbrev out : Moved × State
  out = faults slot (row s.rows n).job fault.Fuel (with_fuel s n 0)

  either : (blocked : Bool) (next : State → Moved × State) → is_poor s n (if blocked then count else count + 1) ≡ true →
      (if blocked then move_on s slot n count f else pay s slot n (count + 1) next) ≡ out
  either true next poor = rw poor refl
  either false next poor = rw poor refl

  -- It ends with the fault Fuel, wherever the run stopped.
  pub out_of_fuel : (stop : Stop) → is_poor s n (cost_of s n count stop) ≡ true → after_run s slot n count f stop ≡ out
  out_of_fuel Yield poor = rw poor refl
  out_of_fuel Fault poor = rw poor refl
  out_of_fuel (Shared i) poor = either (is_blocked s n i) (λ t. execute t slot n f i) poor
