-- Two arguments that went into an array are the same.
use Rattle.std.proofs.Common.{◌≡◌, ℤ, List, [], ◌∷◌, ap, ◌∙◌, FitsSigned}
use Rattle.std.specs.Int.{cast_signed, cast_unsigned, w64}
use Rattle.std.proofs.lemmas.Int.{to_z-of_z}

-- what a number is that went into an array
abbrev stored : ℤ → ℤ
stored x = cast_signed w64 (cast_unsigned w64 x)

pub stored_arguments : (x y : ℤ) → FitsSigned w64 x → FitsSigned w64 y → ◌≡◌ {A = List ℤ} (stored x ∷ stored y ∷ []) (x ∷ y ∷ [])
stored_arguments x y fx fy = ap (λ (z : ℤ). z ∷ stored y ∷ []) (to_z-of_z w64 x fx) ∙ ap (λ (z : ℤ). x ∷ z ∷ []) (to_z-of_z w64 y fy)
