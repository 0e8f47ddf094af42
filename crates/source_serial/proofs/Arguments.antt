-- Two arguments of 64 bits.
use Rattle.std.proofs.Common.{ℕ, zero, suc, ℤ, pos, [], ◌∷◌, FitsSigned}
use Rattle.std.specs.Prelude.{slice_index_or}
use Rattle.std.specs.Int.{w64}
use Rattle.source_serial.proofs.Turns.{nought_fits}

pub arguments_fit : (x y : ℤ) → FitsSigned w64 x → FitsSigned w64 y → (k : ℕ) → FitsSigned w64 (slice_index_or (x ∷ y ∷ []) k (pos 0))
arguments_fit x y fx fy zero = fx
arguments_fit x y fx fy (suc zero) = fy
arguments_fit x y fx fy (suc (suc k)) = nought_fits
