-- What a ring keeps.
use Rattle.std.proofs.Common.{◌≡◌, ℕ, ◌-◌, ◌<◌, List, [], ◌∷◌, ◌++◌, length, length-append, drop, None, refl, ap, arith}
use Rattle.std.specs.Prelude.{slice_get}
use Rattle.circular_buffer.specs.Buffer.{keep_last}

-- a ring with room keeps all
pub kept_last : {X : Type 0} (n : ℕ) (xs : List X) (x : X) → length xs < n → keep_last n (xs ++ x ∷ []) ≡ xs ++ x ∷ []
kept_last n xs x room =
    let long = length-append xs (x ∷ []) in
    let none : length (xs ++ x ∷ []) - n ≡ 0 = omega (arith, long, room) in
    ap (λ k. drop k (xs ++ x ∷ [])) none

-- an empty ring stays as it is
pub none_left : {X : Type 0} (xs : List X) → slice_get xs 0 ≡ None → drop 1 xs ≡ xs
none_left [] none = refl
none_left (x ∷ xs) none = let is : slice_get (x ∷ xs) 0 ≡ None = none in absurd (grind (arith, is))
