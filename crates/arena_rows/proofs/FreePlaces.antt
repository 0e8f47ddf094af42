-- How many places are taken as a table changes.
use Rattle.std.proofs.Common.{◌≡◌, ℕ, suc, ◌+◌, ◌<◌, List, [], ◌∷◌, length, length-set, Option, Some, None, is_some, refl, sym, ap, ◌∙◌, arith, inl, inr}
use Rattle.std.specs.Prelude.{count_by, slice_set}
use Rattle.std.specs.Option.{option_map}
use Rattle.std.proofs.lemmas.Bool.{cases_eq, cases_lt}
use Rattle.std.proofs.lemmas.List.{get_or-set_same, get_or-set_other, set_past}
use Rattle.std.proofs.lemmas.List.Sums.{sum_by-set}
use Rattle.arena_rows.specs.declared.rows.OpenRow.{OpenRow}
use Rattle.arena_rows.specs.Represents.{at_place, one_if, IsFree}
use Rattle.arena_rows.proofs.Alike.{count_cons}

abbrev one : Option OpenRow → ℕ
one o = one_if (is_some o)

taken_set : (table : List (Option OpenRow)) (p : ℕ) (o : Option OpenRow) → p < length table → count_by is_some (slice_set table p o) + one (at_place table p) ≡ count_by is_some table + one o
taken_set table p o within = sum_by-set one table p o None within

-- A row is put at a free place,
pub one_taken : (table : List (Option OpenRow)) (p : ℕ) (e : OpenRow) → IsFree table p → count_by is_some (slice_set table p (Some e)) ≡ count_by is_some table + 1
one_taken table p e free = omega (arith, taken_set table p (Some e) free.within, ap one free.vacant)

-- is changed,
pub same_taken : (table : List (Option OpenRow)) (p : ℕ) (e x : OpenRow) → p < length table → at_place table p ≡ Some e → count_by is_some (slice_set table p (Some x)) ≡ count_by is_some table
same_taken table p e x within there = omega (arith, taken_set table p (Some x) within, ap one there)

pub mapped_taken : (f : OpenRow → OpenRow) (table : List (Option OpenRow)) (p : ℕ) → count_by is_some (slice_set table p (option_map f (at_place table p))) ≡ count_by is_some table
mapped_taken f table p = elim (cases_lt p (length table)) [
  | inl within ↦ omega (arith, taken_set table p (option_map f (at_place table p)) within, as_taken (at_place table p))
  | inr past ↦ ap (count_by is_some) (set_past table p (option_map f (at_place table p)) past)
]
  where
    as_taken : (o : Option OpenRow) → one (option_map f o) ≡ one o
    as_taken None = refl
    as_taken (Some e) = refl

-- and goes.
pub one_freed : (table : List (Option OpenRow)) (p : ℕ) (e : OpenRow) → p < length table → at_place table p ≡ Some e → count_by is_some (slice_set table p None) + 1 ≡ count_by is_some table
one_freed table p e within there = omega (arith, taken_set table p None within, ap one there)

-- Where not all places are taken, one is free.
pub free_there : (table : List (Option OpenRow)) → count_by is_some table < length table → (p : ℕ) × IsFree table p
free_there [] some = absurd (omega (arith, some))
free_there (None ∷ table) some = (0, record { within = omega arith; vacant = refl })
free_there (Some e ∷ table) some =
    let rest = free_there table (omega (arith, some, count_cons (λ (o : Option OpenRow). is_some o) (Some e) table)) in
    (suc rest.0, record { within = omega (arith, rest.1.within); vacant = rest.1.vacant })

-- A place that is free after a row has changed was so before.
pub free_before : (table : List (Option OpenRow)) (q : ℕ) (x : OpenRow) (p : ℕ) → q < length table → IsFree (slice_set table q (Some x)) p → IsFree table p
free_before table q x p within free = record {
  within = omega (arith, free.within, length-set table q (Some x));
  vacant = elim (cases_eq p q) [
    | inl same ↦
        let both : Some x ≡ None = sym (get_or-set_same table q (Some x) None within) ∙ ap (at_place (slice_set table q (Some x))) (sym same) ∙ free.vacant in
        absurd (grind (arith, ap is_some both))
    | inr other ↦ sym (get_or-set_other table q p (Some x) None other) ∙ free.vacant
  ];
}
