-- How stacks of slots change.
use Rattle.std.proofs.Common.{◌≡◌, ◌≢◌, ℕ, ◌+◌, ◌-◌, ◌<◌, ◌≤◌, List, [], ◌∷◌, ◌++◌, length, Bool, refl, sym, ap, ◌∙◌, arith, inl, inr, get_or, map}
use Rattle.std.specs.Prelude.{count_by, if◌then◌else◌, slice_set}
use Rattle.std.specs.List.{enumerate_from}
use Rattle.std.proofs.lemmas.Bool.{cases_eq, cases_lt}
use Rattle.std.proofs.lemmas.List.Sums.{sum_by-set, sum_by-append}
use Rattle.tenant_model.specs.declared.rows.Row.{Row}
use Rattle.tenant_model.specs.declared.rows.TheConstants.{MAX_HEIGHT}
use Rattle.tenant_model.specs.State.{row, with_at_number}
use Rattle.tenant_model.specs.Walks.{height}
use Rattle.tenant_model.specs.WellFormed.{rows_at, AreStacked}
use Rattle.tenant_model.proofs.Changed.{row-get_or, with_at_number-from}

-- one if the test holds
abbrev pub one_if : Bool → ℕ
one_if b = if b then 1 else 0

module _ (p : Row → Bool) (rows : List Row) where
  -- A row changed changes a count by itself alone.
  pub count-with : (n : ℕ) (r : Row) → 1 ≤ n → n ≤ length rows → count_by p (with_at_number rows n r) + one_if (p (row rows n)) ≡ count_by p rows + one_if (p r)
  count-with n r from to =
      let here : n - 1 < length rows = omega arith in
      let place : n - 1 + 1 ≡ n = omega arith in
      let found : get_or rows (n - 1) r ≡ row rows n = row-get_or rows (n - 1) r here ∙ ap (row rows) place in
      let set = sum_by-set (λ x. one_if (p x)) rows (n - 1) r r here in
      rw (with_at_number-from rows n r from) (ap (λ x. count_by p (slice_set rows (n - 1) r) + one_if (p x)) (sym found) ∙ set)

  -- A new row adds itself.
  pub count-push : (r : Row) → count_by p (rows ++ r ∷ []) ≡ count_by p rows + one_if (p r)
  count-push r = sum_by-append (λ x. one_if (p x)) rows (r ∷ []) ∙ omega arith

pub count-cons : (p : Row → Bool) (x : Row) (xs : List Row) → count_by p (x ∷ xs) ≡ one_if (p x) + count_by p xs
count-cons p x xs = sum_by-append (λ r. one_if (p r)) (x ∷ []) xs ∙ omega arith

-- A count by parts.
pub count-split : (p q r : Row → Bool) → ((x : Row) → one_if (p x) ≡ one_if (q x) + one_if (r x)) → (rows : List Row) → count_by p rows ≡ count_by q rows + count_by r rows
count-split p q r each [] = refl
count-split p q r each (x ∷ xs) = omega (arith, each x, count-split p q r each xs, count-cons p x xs, count-cons q x xs, count-cons r x xs)

-- A count that each row meets alike.
pub count-map : (p : Row → Bool) (f : ℕ × Row → Row) → ((n : ℕ) (x : Row) → p (f (n, x)) ≡ p x) → (k : ℕ) (rows : List Row) → count_by p (map f (enumerate_from k rows)) ≡ count_by p rows
count-map p f same k [] = refl
count-map p f same k (x ∷ xs) = count-cons p (f (k, x)) (map f (enumerate_from (k + 1) xs)) ∙ rw (same k x) (ap (λ n. one_if (p x) + n) (count-map p f same (k + 1) xs) ∙ sym (count-cons p x xs))

-- the same rows on all slots
pub record AreSame (a b : List Row) : Type 0 where
  pub on : (slot : ℕ) → height b slot ≡ height a slot
  pub at : (slot h : ℕ) → rows_at b slot h ≡ rows_at a slot h

pub AreStacked-same : (a b : List Row) → AreSame a b → AreStacked a → AreStacked b
AreStacked-same a b same stacked = record {
  one_at_each = λ slot h from to. same.at slot h ∙ stacked.one_at_each slot h from (omega (arith, to, same.on slot));
  none_below = λ slot. same.at slot 0 ∙ stacked.none_below slot;
  none_above = λ slot h above. same.at slot h ∙ stacked.none_above slot h (omega (arith, above, same.on slot));
  low = λ slot. omega (arith, same.on slot, stacked.low slot);
}

-- one row more, on top of a slot
pub record IsPushed (a b : List Row) (slot : ℕ) : Type 0 where
  pub on : height b slot ≡ height a slot + 1
  pub on_others : (t : ℕ) → t ≢ slot → height b t ≡ height a t
  pub at_top : rows_at b slot (height a slot + 1) ≡ rows_at a slot (height a slot + 1) + 1
  pub at_rest : (h : ℕ) → h ≢ height a slot + 1 → rows_at b slot h ≡ rows_at a slot h
  pub at_others : (t h : ℕ) → t ≢ slot → rows_at b t h ≡ rows_at a t h

pub AreStacked-pushed : (a b : List Row) (slot : ℕ) → IsPushed a b slot → height a slot < MAX_HEIGHT → AreStacked a → AreStacked b
AreStacked-pushed a b slot pushed room stacked = record {
  one_at_each = λ t h from to. elim (cases_eq t slot) [
    | inl same ↦ rw same (elim (cases_eq h (height a slot + 1)) [
      | inl top ↦ rw top (omega (arith, pushed.at_top, stacked.none_above slot (height a slot + 1) (omega arith)))
      | inr rest ↦
          let below : h ≤ height a slot = let to_here : h ≤ height b slot = rw same at to in omega (arith, to_here, rest, pushed.on) in
          pushed.at_rest h rest ∙ stacked.one_at_each slot h from below
    ])
    | inr other ↦ pushed.at_others t h other ∙ stacked.one_at_each t h from (omega (arith, to, pushed.on_others t other))
  ];
  none_below = λ t. elim (cases_eq t slot) [
    | inl same ↦ rw same (pushed.at_rest 0 (omega arith) ∙ stacked.none_below slot)
    | inr other ↦ pushed.at_others t 0 other ∙ stacked.none_below t
  ];
  none_above = λ t h above. elim (cases_eq t slot) [
    | inl same ↦
        let higher : height b slot < h = rw same at above in
        rw same (pushed.at_rest h (omega (arith, higher, pushed.on)) ∙ stacked.none_above slot h (omega (arith, higher, pushed.on)))
    | inr other ↦ pushed.at_others t h other ∙ stacked.none_above t h (omega (arith, above, pushed.on_others t other))
  ];
  low = λ t. elim (cases_eq t slot) [
    | inl same ↦ rw same (omega (arith, pushed.on, room))
    | inr other ↦ omega (arith, pushed.on_others t other, stacked.low t)
  ];
}

-- the rows of a slot from a height on are gone
pub record IsCut (a b : List Row) (slot from : ℕ) : Type 0 where
  pub within : from ≤ height a slot + 1
  pub on : height b slot ≡ from - 1
  pub on_others : (t : ℕ) → t ≢ slot → height b t ≡ height a t
  pub kept : (h : ℕ) → h < from → rows_at b slot h ≡ rows_at a slot h
  pub gone : (h : ℕ) → from ≤ h → rows_at b slot h ≡ 0
  pub at_others : (t h : ℕ) → t ≢ slot → rows_at b t h ≡ rows_at a t h

pub AreStacked-cut : (a b : List Row) (slot from : ℕ) → IsCut a b slot from → AreStacked a → AreStacked b
AreStacked-cut a b slot from cut stacked = record {
  one_at_each = λ t h least to. elim (cases_eq t slot) [
    | inl same ↦
        let to_here : h ≤ height b slot = rw same at to in
        rw same (cut.kept h (omega (arith, to_here, cut.on, least)) ∙ stacked.one_at_each slot h least (omega (arith, to_here, cut.on, cut.within, least)))
    | inr other ↦ cut.at_others t h other ∙ stacked.one_at_each t h least (omega (arith, to, cut.on_others t other))
  ];
  none_below = λ t. elim (cases_eq t slot) [
    | inl same ↦ rw same (elim (cases_lt 0 from) [
      | inl some ↦ cut.kept 0 some ∙ stacked.none_below slot
      | inr none ↦ cut.gone 0 none
    ])
    | inr other ↦ cut.at_others t 0 other ∙ stacked.none_below t
  ];
  none_above = λ t h above. elim (cases_eq t slot) [
    | inl same ↦
        let higher : height b slot < h = rw same at above in
        rw same (cut.gone h (omega (arith, higher, cut.on)))
    | inr other ↦ cut.at_others t h other ∙ stacked.none_above t h (omega (arith, above, cut.on_others t other))
  ];
  low = λ t. elim (cases_eq t slot) [
    | inl same ↦ rw same (omega (arith, cut.on, cut.within, stacked.low slot))
    | inr other ↦ omega (arith, cut.on_others t other, stacked.low t)
  ];
}
