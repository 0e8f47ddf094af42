-- The worked example computes.
use Rattle.std.proofs.Common.{refl, arith, [], get_or, rules}
use Rattle.std.specs.Prelude.{All}
use Rattle.std.proofs.lemmas.List.Elements.{All-cons, All-nil}
use Rattle.job_language.specs.Program.{IsInRange, IsValidProc}
use Rattle.job_step.specs.Run.{run_for}
use Rattle.tenant_model.specs.Worked.{fib}
use Rattle.serial_law.specs.Worked.{FibIsValid, FibIsSerial, FibIsJob1, FibCompletesWith8}

pub fib_is_serial_computes : FibIsSerial
unfolding FibIsSerial
fib_is_serial_computes = refl

pub fib_is_job_1_computes : FibIsJob1
unfolding FibIsJob1
fib_is_job_1_computes = refl

pub fib_completes_with_8_computes : FibCompletesWith8
unfolding run_for FibCompletesWith8
fib_completes_with_8_computes = refl

each_in_range : All (IsInRange 11) (get_or fib.program 0 [])
each_in_range = search rules

pub fib_is_valid_holds : FibIsValid
fib_is_valid_holds = record {
  some = omega arith;
  most = omega arith;
  each = All-cons IsValidProc (get_or fib.program 0 []) [] (record { some = omega arith; most = omega arith; each = each_in_range; ends = refl }) (All-nil IsValidProc);
  calls = search rules;
}
