-- Rows and jobs by their numbers, in lists that change.
use Rattle.std.proofs.Common.{◌≡◌, ◌≢◌, ℕ, zero, suc, ◌+◌, ◌-◌, ◌<◌, ◌≤◌, List, [], ◌∷◌, ◌++◌, length, get_or, refl, sym, ap, ◌∙◌, arith, unwrap_or, map, length-set}
use Rattle.std.specs.Prelude.{slice_set}
use Rattle.std.proofs.lemmas.Option.{unwrap_or-slice_get, slice_get_past}
use Rattle.std.proofs.lemmas.List.{get_or-set_same, get_or-set_other, set-append_left, set-set, get_or_append_left, get_or_push, get_or_default, get_or-map}
use Rattle.tenant_model.specs.declared.rows.Row.{Row}
use Rattle.tenant_model.specs.State.{at_number, with_at_number, row}

pred_suc : (n : ℕ) → suc n - 1 ≡ n
pred_suc n = omega arith

module _ {A : Type 0} (xs : List A) where
  -- Number n stands at place n - 1.
  pub with_at_number-from : (n : ℕ) (x : A) → 1 ≤ n → with_at_number xs n x ≡ slice_set xs (n - 1) x
  with_at_number-from zero x from = absurd (omega arith)
  with_at_number-from (suc n) x from = rw (pred_suc n) refl

  pub length-with : (n : ℕ) (x : A) → length (with_at_number xs n x) ≡ length xs
  length-with zero x = refl
  length-with (suc n) x = length-set xs n x

  -- The second item stays.
  pub with_at_number-twice : (n : ℕ) (x y : A) → with_at_number (with_at_number xs n x) n y ≡ with_at_number xs n y
  with_at_number-twice zero x y = refl
  with_at_number-twice (suc n) x y = set-set xs n x y

  pub with_at_number-append : (ys : List A) (n : ℕ) (x : A) → n ≤ length xs → with_at_number (xs ++ ys) n x ≡ with_at_number xs n x ++ ys
  with_at_number-append ys zero x to = refl
  with_at_number-append ys (suc n) x to = set-append_left xs ys n x (omega arith)

module _ {A : Type 0} (xs : List A) (d : A) where
  -- the item of a number, with a default
  pub numbered_or : (n : ℕ) → 1 ≤ n → unwrap_or (at_number xs n) d ≡ get_or xs (n - 1) d
  numbered_or zero from = absurd (omega arith)
  numbered_or (suc n) from = rw pred_suc (unwrap_or-slice_get xs n d)

  pub at_number-with_same : (n : ℕ) (x : A) → 1 ≤ n → n ≤ length xs → unwrap_or (at_number (with_at_number xs n x) n) d ≡ x
  at_number-with_same zero x from to = absurd (omega arith)
  at_number-with_same (suc n) x from to = unwrap_or-slice_get (slice_set xs n x) n d ∙ get_or-set_same xs n x d (omega arith)

  pub at_number-with_other : (n m : ℕ) (x : A) → 1 ≤ n → m ≢ n → unwrap_or (at_number (with_at_number xs n x) m) d ≡ unwrap_or (at_number xs m) d
  at_number-with_other zero m x from other = absurd (omega arith)
  at_number-with_other (suc n) zero x from other = refl
  at_number-with_other (suc n) (suc m) x from other =
      let apart : m ≢ n = omega arith in
      unwrap_or-slice_get (slice_set xs n x) m d ∙ get_or-set_other xs n m x d apart ∙ sym (unwrap_or-slice_get xs m d)

  pub at_number-push_old : (m : ℕ) (x : A) → m ≤ length xs → unwrap_or (at_number (xs ++ x ∷ []) m) d ≡ unwrap_or (at_number xs m) d
  at_number-push_old zero x old = refl
  at_number-push_old (suc m) x old = unwrap_or-slice_get (xs ++ x ∷ []) m d ∙ get_or_append_left xs (x ∷ []) d m (omega arith) ∙ sym (unwrap_or-slice_get xs m d)

  pub at_number-push_new : (m : ℕ) (x : A) → m ≡ length xs + 1 → unwrap_or (at_number (xs ++ x ∷ []) m) d ≡ x
  at_number-push_new zero x new = absurd (omega arith)
  at_number-push_new (suc m) x new = unwrap_or-slice_get (xs ++ x ∷ []) m d ∙ get_or_push xs x d m (omega arith)

-- the same for rows
module _ (rows : List Row) where
  pub row-with_same : (n : ℕ) (r : Row) → 1 ≤ n → n ≤ length rows → row (with_at_number rows n r) n ≡ r
  row-with_same n r from to = at_number-with_same rows _ n r from to

  pub row-with_other : (n m : ℕ) (r : Row) → 1 ≤ n → m ≢ n → row (with_at_number rows n r) m ≡ row rows m
  row-with_other n m r from other = at_number-with_other rows _ n m r from other

  pub row-push_old : (m : ℕ) (r : Row) → m ≤ length rows → row (rows ++ r ∷ []) m ≡ row rows m
  row-push_old m r old = at_number-push_old rows _ m r old

  pub row-push_new : (m : ℕ) (r : Row) → m ≡ length rows + 1 → row (rows ++ r ∷ []) m ≡ r
  row-push_new m r new = at_number-push_new rows _ m r new

  -- by its place
  pub row-get_or : (k : ℕ) (d : Row) → k < length rows → get_or rows k d ≡ row rows (k + 1)
  row-get_or k d within =
      let place : k + 1 - 1 ≡ k = omega arith in
      sym (numbered_or rows _ (k + 1) (omega arith) ∙ rw place (get_or_default rows k _ d within))

  -- past the last
  pub row-past : (n : ℕ) → length rows < n → row rows n ≡ row [] n
  row-past zero past = absurd (omega arith)
  row-past (suc n) past = ap (λ o. unwrap_or o (row [] 0)) (slice_get_past rows n (omega arith))

-- and in a list that is mapped
pub row-map : (f : Row → Row) (rows : List Row) (n : ℕ) → 1 ≤ n → n ≤ length rows → row (map f rows) n ≡ f (row rows n)
row-map f rows zero from to = absurd (omega arith)
row-map f rows (suc n) from to =
    unwrap_or-slice_get (map f rows) n (row [] 0) ∙ get_or-map f rows n (row [] 0) (row [] 0) (omega arith) ∙ ap f (sym (unwrap_or-slice_get rows n (row [] 0)))
