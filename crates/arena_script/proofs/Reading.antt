-- Reading all the bytes of a reader.
use Rattle.std.proofs.Common.{◌≡◌, ℕ, List, ◌++◌, Option, Some, None, ap, ◌∙◌, arith, append-nil}
use Rattle.std.specs.Prelude.{IsSome}
use Rattle.std.specs.Io.KnownBytes.{Consumes, IsAtEnd}

-- What came up to the end of known bytes is all of them.
pub all_bytes : (before after : Option (List ℕ)) (bytes : List ℕ) → Consumes before after bytes → IsAtEnd after → IsSome before → before ≡ Some bytes
all_bytes None after bytes came end known = absurd (grind (arith, known))
all_bytes (Some xs) None bytes came end known = absurd came
all_bytes (Some xs) (Some ys) bytes came end known = ap (λ (t : List ℕ). Some t) (came ∙ ap (λ (t : List ℕ). bytes ++ t) end ∙ append-nil bytes)
