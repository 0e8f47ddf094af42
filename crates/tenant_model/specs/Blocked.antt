-- Private runs that stop at a wait.
use Rattle.std.specs.Prelude.{ℕ, Bool, false}
use Rattle.job_step.specs.declared.runs.Stop.{Stop}
use Rattle.job_step.specs.declared.runs.Stop.TheVariants.{Shared, Yield, Fault}
use Rattle.tenant_model.specs.State.{State}
use Rattle.tenant_model.specs.Advance.{is_blocked}

-- Did row n's run stop at a wait for pending members?
abbrev pub stops_blocked : State → (n : ℕ) → Stop → Bool
stops_blocked s n (Shared i) = is_blocked s n i
stops_blocked s n Yield = false
stops_blocked s n Fault = false
