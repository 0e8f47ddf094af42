-- Numbers of 64 bits.
use Rattle.std.proofs.Common.{◌≡◌, ℕ, ◌<◌, ◌≤◌, ◌^◌, ℤ, pos, negsuc, ap, ◌∙◌, arith, FitsSigned}
use Rattle.std.specs.Prelude.{int_rem, unsigned_abs}
use Rattle.std.specs.Int.{int_bit_or, int_shr, cast_unsigned, cast_signed, w64}
use Rattle.std.specs.Int.Bits.{or_self}
use lib.Signed.{mag_shr}
use mir.ValLaws.{sfits_le}
use Rattle.std.proofs.lemmas.Int.{to_z-of_z, rem_below, fits_signed_from_abs}

pub small_fits : (n : ℕ) → n < 2 ^ 63 → FitsSigned w64 (pos n)
small_fits n low = fits_signed_from_abs w64 (pos n) low

pub or_same : (z : ℤ) → FitsSigned w64 z → int_bit_or w64 z z ≡ z
or_same z f = ap (cast_signed w64) (or_self (cast_unsigned w64 z)) ∙ to_z-of_z w64 z f

fits_abs : (z : ℤ) → FitsSigned w64 z → unsigned_abs z ≤ 2 ^ 63
fits_abs (pos n) f = omega (arith, f.sfits)
fits_abs (negsuc n) f = omega (arith, f.sfits)

pub remainder_fits : (x y : ℤ) → FitsSigned w64 y → 0 < unsigned_abs y → FitsSigned w64 (int_rem x y)
remainder_fits x y fy some = fits_signed_from_abs w64 (int_rem x y) (omega (arith, rem_below x y some, fits_abs y fy))

pub shifted_fits : (x : ℤ) (k : ℕ) → FitsSigned w64 x → FitsSigned w64 (int_shr x k)
shifted_fits x k fx = sfits_le (mag_shr x (2 ^ k)) fx
