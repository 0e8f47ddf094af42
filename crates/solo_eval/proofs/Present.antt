-- Numbers that are there, as pairs.
use Rattle.std.proofs.Common.{◌≤◌, List, Some, None, IfSome, length}
use Rattle.std.specs.Prelude.{ℕ, Option}
use Rattle.solo_eval.specs.Present.{IsNumberIn}

pub within : {A : Type 0} (items : List A) (number : Option ℕ) → IfSome number (IsNumberIn items) → IfSome number (λ n. (1 ≤ n) × (n ≤ length items))
within items None there = tt
within items (Some n) there = (there.from, there.to)
