-- Wrapping sums.
use Rattle.std.proofs.Common.{◌≡◌, ℕ, zero, suc, ◌+◌, ◌%◌, ◌^◌, ◌<◌, ℤ, pos, List, [], ◌∷◌, true, false, refl, sym, ap, ◌∙◌, arith, inl, inr, length, get_or, lit<}
use Rattle.std.specs.Prelude.{fold, filter, slice_set, count_by}
use Rattle.std.specs.List.{enumerate_from}
use Rattle.std.specs.Int.{int_wrapping_add, w64, cast_signed, cast_unsigned}
use Rattle.std.proofs.lemmas.Int.{of_z-to_z}
use Rattle.std.proofs.Math.Nat.{mod-add-mod, mod-lt}
use Rattle.tenant_model.specs.declared.rows.Row.{Row}
use Rattle.tenant_model.specs.Walks.{NumberedRow, is_open, value_in}
use Rattle.tenant_model.proofs.Within.{either_way}
use Rattle.tenant_model.proofs.Stacking.{one_if}
use Rattle.arena_rows.proofs.Alike.{member, count_cons}

abbrev add : ℤ → ℤ → ℤ
add x y = int_wrapping_add w64 x y

add_is : (x y : ℤ) → cast_unsigned w64 (add x y) ≡ (cast_unsigned w64 x + cast_unsigned w64 y) % 2 ^ 64
add_is x y = of_z-to_z w64 ((cast_unsigned w64 x + cast_unsigned w64 y) % 2 ^ 64) (mod-lt (cast_unsigned w64 x + cast_unsigned w64 y) (lit< tt))

add_twice : (s x y : ℤ) → add (add s x) y ≡ cast_signed w64 ((cast_unsigned w64 s + cast_unsigned w64 x + cast_unsigned w64 y) % 2 ^ 64)
add_twice s x y = ap (λ n. cast_signed w64 ((n + cast_unsigned w64 y) % 2 ^ 64)) (add_is s x) ∙
    ap (cast_signed w64) (mod-add-mod (cast_unsigned w64 s + cast_unsigned w64 x) (2 ^ 64) (cast_unsigned w64 y))

-- The order of two numbers does not count.
add_swap : (s x y : ℤ) → add (add s x) y ≡ add (add s y) x
add_swap s x y =
    let same : cast_unsigned w64 s + cast_unsigned w64 x + cast_unsigned w64 y ≡ cast_unsigned w64 s + cast_unsigned w64 y + cast_unsigned w64 x = omega arith in
    add_twice s x y ∙ ap (λ n. cast_signed w64 (n % 2 ^ 64)) same ∙ sym (add_twice s y x)

no_more : (n : ℕ) → n + 0 ≡ n
no_more n = omega arith

-- nor does a 0 before another one
add_zero : (s x : ℤ) → add (add s (pos 0)) x ≡ add s x
add_zero s x = add_twice s (pos 0) x ∙ ap (λ n. cast_signed w64 ((n + cast_unsigned w64 x) % 2 ^ 64)) (no_more (cast_unsigned w64 s))

abbrev summed : ℤ → List NumberedRow → ℤ
summed s ps = fold (λ sum (p : NumberedRow). int_wrapping_add w64 sum (value_in p.1.phase)) s ps

summed_more : (s x : ℤ) (ps : List NumberedRow) → summed (add s x) ps ≡ add (summed s ps) x
summed_more s x [] = refl
summed_more s x (p ∷ ps) = ap (λ t. summed t ps) (add_swap s x (value_in p.1.phase)) ∙ summed_more (add s (value_in p.1.phase)) x ps

-- A member without a value adds nothing.
pub summed_nothing : (ps : List NumberedRow) → add (summed (pos 0) ps) (pos 0) ≡ summed (pos 0) ps
summed_nothing ps = sym (summed_more (pos 0) (pos 0) ps)

-- A member that had no value is done.
pub total-done : (f g since n k i : ℕ) (s : ℤ) (r d : Row) (xs : List Row) → n ≡ k + i → i < length xs → r.kind ≡ (get_or xs i d).kind → value_in (get_or xs i d).phase ≡ pos 0 →
    member f g since (n, get_or xs i d) ≡ true →
    summed s (filter (member f g since) (enumerate_from k (slice_set xs i r))) ≡ add (summed s (filter (member f g since) (enumerate_from k xs))) (value_in r.phase)
total-done f g since n k i s r d [] is within kind none joined = absurd (omega arith)
total-done f g since n k zero s r d (x ∷ xs) is within kind none joined =
    let here : n ≡ k = omega arith in
    let rest = filter (member f g since) (enumerate_from (k + 1) xs) in
    let is_in : member f g since (k, x) ≡ true = rw (← here) joined in
    let first : add s (value_in x.phase) ≡ add s (pos 0) = ap (add s) none in
    rw (kind, is_in) (sym (ap (λ t. summed t rest) (add_zero s (value_in r.phase))) ∙ summed_more (add s (pos 0)) (value_in r.phase) rest ∙
    ap (λ t. add (summed t rest) (value_in r.phase)) (sym first))
total-done f g since n k (suc i) s r d (x ∷ xs) is within kind none joined = elim (either_way (member f g since (k, x))) [
  | inl is_in ↦ rw is_in (total-done f g since n (k + 1) i (add s (value_in x.phase)) r d xs (omega arith) (omega arith) kind none joined)
  | inr not_in ↦ rw not_in (total-done f g since n (k + 1) i s r d xs (omega arith) (omega arith) kind none joined)
]

-- An open member that has ended is not pending.
pub pending-done : (f g since n k i : ℕ) (r d : Row) (xs : List Row) → n ≡ k + i → i < length xs → r.kind ≡ (get_or xs i d).kind → is_open (get_or xs i d).phase ≡ true → is_open r.phase ≡ false →
    member f g since (n, get_or xs i d) ≡ true →
    count_by (λ (p : NumberedRow). is_open p.1.phase) (filter (member f g since) (enumerate_from k (slice_set xs i r))) + 1 ≡
    count_by (λ (p : NumberedRow). is_open p.1.phase) (filter (member f g since) (enumerate_from k xs))
pending-done f g since n k i r d [] is within kind opened closed joined = absurd (omega arith)
pending-done f g since n k zero r d (x ∷ xs) is within kind opened closed joined =
    let here : n ≡ k = omega arith in
    let rest = filter (member f g since) (enumerate_from (k + 1) xs) in
    let is_in : member f g since (k, x) ≡ true = rw (← here) joined in
    let one : one_if (is_open x.phase) ≡ 1 = rw opened refl in
    let none : one_if (is_open r.phase) ≡ 0 = rw closed refl in
    rw (kind, is_in) (omega (arith, count_cons (λ (p : NumberedRow). is_open p.1.phase) (k, r) rest, count_cons (λ (p : NumberedRow). is_open p.1.phase) (k, x) rest, one, none))
pending-done f g since n k (suc i) r d (x ∷ xs) is within kind opened closed joined =
    let later = pending-done f g since n (k + 1) i r d xs (omega arith) (omega arith) kind opened closed joined in
    elim (either_way (member f g since (k, x))) [
      | inl is_in ↦ rw is_in (omega (
        arith,
        later,
        count_cons (λ (p : NumberedRow). is_open p.1.phase) (k, x) (filter (member f g since) (enumerate_from (k + 1) (slice_set xs i r))),
        count_cons (λ (p : NumberedRow). is_open p.1.phase) (k, x) (filter (member f g since) (enumerate_from (k + 1) xs)),
      ))
      | inr not_in ↦ rw not_in later
    ]
