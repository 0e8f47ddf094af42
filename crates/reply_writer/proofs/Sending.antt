-- Bytes that are written piece by piece.
use Rattle.std.proofs.Common.{◌≡◌, ℕ, ◌+◌, ◌-◌, ◌≤◌, List, ◌++◌, length, take, drop, Option, Some, None, append_assoc, sym, ap, subst, ◌∙◌, arith}
use Rattle.std.proofs.lemmas.Grind.{common_steps}
use Rattle.std.proofs.Math.Seq.{take-add}
use Rattle.std.specs.Io.KnownBytes.{Appends}

all_rest : (xs : List ℕ) (s : ℕ) → take (length xs - s) (drop s xs) ≡ drop s xs
all_rest xs s = grind (arith, common_steps)

all_pieces : (a b c : Option (List ℕ)) (xs : List ℕ) (s n : ℕ) → Appends a b (take s xs) → Appends b c (take n (drop s xs)) → Appends a c (take (s + n) xs)
all_pieces None b c xs s n first next = tt
all_pieces (Some x) None c xs s n first next = absurd first
all_pieces (Some x) (Some y) None xs s n first next = absurd next
all_pieces (Some x) (Some y) (Some z) xs s n first next =
    next ∙ ap (λ t. t ++ take n (drop s xs)) first ∙ append_assoc x (take s xs) (take n (drop s xs))
    ∙ ap (λ t. x ++ t) (sym (take-add s n xs))

-- A piece from the front, and then one from the front of the rest.
pub appends_on : (a b c : Option (List ℕ)) (xs : List ℕ) (s n : ℕ) → Appends a b (take s xs) → Appends b c (take n (take (length xs - s) (drop s xs))) → Appends a c (take (s + n) xs)
appends_on a b c xs s n first next =
    all_pieces a b c xs s n first (subst (λ (rest : List ℕ). Appends b c (take n rest)) (all_rest xs s) next)

-- What is left of some bytes has room for what is taken from it.
pub within_rest : (xs : List ℕ) (s n : ℕ) → s ≤ length xs → n ≤ length (take (length xs - s) (drop s xs)) → s + n ≤ length xs
within_rest xs s n inside taken = grind (arith, common_steps)
