-- The worked example computes.
use Rattle.std.proofs.Common.{refl, arith, rules}
use Rattle.job_compiler.proofs.Numbers.{small_fits}
use Rattle.job_compiler.specs.Worked.{SummedIsFunction, SummedIsValid, SummedGives10}

pub summed_is_function : SummedIsFunction
summed_is_function g = record {
  parameters = omega arith;
  within = (
    (
      (omega arith, omega arith),
      (omega arith, (omega arith, omega arith)),
      (omega arith, (omega arith, small_fits 1 (omega arith))),
    ),
    omega arith,
  );
}

pub summed_is_valid : SummedIsValid
summed_is_valid g = record { some = omega arith; most = omega arith; each = search rules; ends = refl }

pub summed_gives_10 : SummedGives10
unfolding SummedGives10
summed_gives_10 g = refl
