-- A list that is mapped in place.
use Rattle.std.proofs.Common.{◌≡◌, ℕ, suc, ◌+◌, ◌-◌, ◌<◌, List, ◌∷◌, [], ◌++◌, length, take, drop, map, get_or, refl, sym, ◌∙◌, arith}
use Rattle.std.specs.Prelude.{slice_set, Bool, true, false, Some, find}
use Rattle.std.specs.List.{range_with_len}
use Rattle.std.proofs.lemmas.Grind.{common_steps}
use Rattle.std.proofs.lemmas.List.{length-map, length-take-le, map_more, drop_more, get_or_at, set_at, append_assoc}

module _ {A : Type 0} (f : A → A) (xs : List A) (i : ℕ) (within : i < length xs) where
  front_length : length (map f (take i xs)) ≡ i
  front_length = length-map (take i xs) f ∙ length-take-le i xs (omega arith)

  -- The next item is still as it was.
  pub mapped-next : (d : A) → get_or (map f (take i xs) ++ drop i xs) i d ≡ get_or xs i d
  mapped-next d = rw (drop_more xs i d within) (get_or_at (map f (take i xs)) (get_or xs i d) (drop (i + 1) xs) d i front_length)

  -- It is mapped too.
  pub mapped-more : (d : A) → slice_set (map f (take i xs) ++ drop i xs) i (f (get_or xs i d)) ≡ map f (take (i + 1) xs) ++ drop (i + 1) xs
  mapped-more d =
      let x = get_or xs i d in
      rw (drop_more xs i d within, map_more f xs i d within) (set_at (map f (take i xs)) x (drop (i + 1) xs) (f x) i front_length ∙ sym (append_assoc (map f (take i xs)) (f x ∷ []) (drop (i + 1) xs)))

-- A range that is not empty begins with its start.
pub one_more : (n c : ℕ) → c < n → range_with_len c (n - c) ≡ c ∷ range_with_len (c + 1) (n - (c + 1))
one_more n c below = let e : n - c ≡ suc (n - (c + 1)) = omega arith in rw e (grind (arith, common_steps))

module _ (p : ℕ → Bool) (n c : ℕ) (below : c < n) where
  -- The first number of a range is found if it passes.
  pub find-here : p c ≡ true → find p (range_with_len c (n - c)) ≡ Some c
  find-here passes = rw (one_more n c below, passes) refl

  -- The search continues after a number that does not.
  pub find-next : p c ≡ false → find p (range_with_len c (n - c)) ≡ find p (range_with_len (c + 1) (n - (c + 1)))
  find-next fails = rw (one_more n c below, fails) refl
