-- A worked example that meets the premises of the law: the sixth Fibonacci number, on one reserved slot.
use Rattle.std.specs.Prelude.{◌≡◌, pos, true, ◌∷◌, replicate, Some}
use Rattle.job_language.specs.Program.{IsValidProgram}
use Rattle.job_language.specs.Serial.{is_serial}
use Rattle.job_language.specs.declared.answers.Status.TheVariants.{Complete}
use Rattle.job_language.specs.declared.requests.Request.TheVariants.{Execute}
use Rattle.job_language.specs.declared.steps.Step.TheVariants.{Ask, Advance}
use Rattle.job_language.specs.declared.tenants.Isolation.TheVariants.{Exact}
use Rattle.tenant_model.specs.State.{empty, job}
use Rattle.tenant_model.specs.Asks.{ask, status}
use Rattle.tenant_model.specs.Solo.{after}
use Rattle.tenant_model.specs.Worked.{tenant, fib}
use Rattle.serial_law.specs.SerialValues.{number_made}

abbrev pub FibIsValid : Type 0
FibIsValid = IsValidProgram fib.program

unfoldable pub FibIsSerial : Type 0
FibIsSerial = is_serial fib.program ≡ true

unfoldable pub FibIsJob1 : Type 0
FibIsJob1 = number_made (ask (empty (tenant 1 1 Exact)) (Execute fib)).0 ≡ Some 1

unfoldable pub FibCompletesWith8 : Type 0
FibCompletesWith8 =
    let t = after (empty (tenant 1 1 Exact)) (Ask (Execute fib) ∷ replicate 85 (Advance 0)) in
    status t.rows 1 (job t.jobs 1) ≡ Complete (pos 8)
