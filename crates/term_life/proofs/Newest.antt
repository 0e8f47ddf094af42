-- What is older has more newer ones.
use Rattle.std.proofs.Common.{ℕ, suc, ◌≡◌, ◌+◌, ◌≤◌, ◌<◌, Bool, true, false, List, [], ◌∷◌, cond, get_or, EachIndex, slice_index, sym, rules, arith}
use Rattle.std.proofs.lemmas.Bool.{leb-true, le-leb}
use Rattle.std.proofs.lemmas.List.{get_or_default}
use Rattle.std.proofs.lemmas.List.Sums.{sum_by-cons}
use Rattle.term_life.specs.Dumps.{is_newer, newer, AreNewest}

newer_at : (a b : Bool) (x y : ℕ) → (a ≡ true → b ≡ true) → x ≤ y → cond a 1 0 + x ≤ cond b 1 0 + y
newer_at true true x y both below = omega arith
newer_at true false x y both below = absurd (differ (both refl_true)) where
  refl_true : true ≡ true
  refl_true = search rules

  differ : false ≡ true → ⊥
  differ is = search rules
newer_at false true x y both below = omega arith
newer_at false false x y both below = omega arith

later : (o n m : ℕ) → o ≤ n → is_newer n m ≡ true → is_newer o m ≡ true
later o n m older is =
    let above : suc n ≤ m = leb-true (suc n) m is in
    le-leb (suc o) m (omega arith)

pub newer-older : (o n : ℕ) → o ≤ n → (ms : List ℕ) → newer n ms ≤ newer o ms
newer-older o n older [] = omega arith
newer-older o n older (m ∷ ms) =
    rw (sum_by-cons (λ x. cond (is_newer n x) 1 0) m ms, sum_by-cons (λ x. cond (is_newer o x) 1 0) m ms)
    (newer_at (is_newer n m) (is_newer o m) (newer n ms) (newer o ms) (later o n m older) (newer-older o n older ms))

-- If the oldest is not too old, none is.
pub all_newest : (keep o : ℕ) (ms : List ℕ) → EachIndex ms (λ k. o ≤ slice_index ms k) → newer o ms < keep → AreNewest keep ms
all_newest keep o ms least few n (k, within, is) =
    let at : o ≤ slice_index ms k = least k within in
    let same : get_or ms k n ≡ get_or ms k 0 = get_or_default ms k n 0 within in
    let older : o ≤ n = grind (arith, at, same, is) in
    let fewer : newer n ms ≤ newer o ms = newer-older o n older ms in
    omega arith

-- the same of the same numbers
pub newest_along : (keep : ℕ) (ms ns : List ℕ) → ms ≡ ns → AreNewest keep ms → AreNewest keep ns
newest_along keep ms ns is newest = rw (sym is) newest
