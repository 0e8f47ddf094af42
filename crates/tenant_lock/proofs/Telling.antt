-- Slots that are noted, named and left.
use Rattle.std.proofs.Common.{ℕ, ◌≡◌, ◌<◌, ◌+◌, ◌∙◌, inl, inr, Bool, true, false, List, length, replicate, refl, sym, ap, arith}
use Rattle.std.proofs.lemmas.Bool.{cases_eq, cases_lt, both_ways}
use Rattle.std.proofs.lemmas.List.{get_or-set_same, get_or-set_other, get_or-replicate, get_or_past, length-set}
use Rattle.std.specs.Prelude.{◌||◌, ◌&&◌, slice_set}
use Rattle.tenant_record.specs.Cell.{CellData}
use Rattle.tenant_lock.specs.Sleepers.{is_in, CanMove, IsIdle, AreTold}

-- After the slots below a number.
pub record ToldBelow (c : CellData) (is_over : Bool) (noted named left : List Bool) (slots : ℕ) : Type 0 where
  pub each : (slot : ℕ) → is_in noted slot ≡ (is_in named slot || is_in left slot)
  pub once : (slot : ℕ) → (is_in named slot && is_in left slot) ≡ false
  pub move : (slot : ℕ) → is_in named slot ≡ true → CanMove c is_over slot
  pub sleep : (slot : ℕ) → slot < slots → is_in left slot ≡ true → IsIdle c is_over slot
  pub named_long : length named ≡ 16
  pub left_long : length left ≡ 16

or_true : (b : Bool) → (b || true) ≡ true
or_true true = refl
or_true false = refl

-- One slot more, which is named.
pub named_more : (c : CellData) (is_over : Bool) (noted named left : List Bool) (at : ℕ) → at < 16 → ToldBelow c is_over noted named left at → is_in left at ≡ true → CanMove c is_over at →
    ToldBelow c is_over noted (slice_set named at true) (slice_set left at false) (at + 1)
named_more c is_over noted named left at low told is can =
    let inside : at < length named = omega (arith, low, told.named_long) in
    let within : at < length left = omega (arith, low, told.left_long) in
    let now_named = get_or-set_same named at true false inside in
    let now_left = get_or-set_same left at false false within in
    record {
      each = λ slot. elim (cases_eq slot at) [
        | inl same ↦ rw (same, now_named) (told.each at ∙ ap (λ b. is_in named at || b) is ∙ or_true (is_in named at))
        | inr other ↦ rw (get_or-set_other named at slot true false other, get_or-set_other left at slot false false other) (told.each slot)
      ];
      once = λ slot. elim (cases_eq slot at) [
        | inl same ↦ rw (same, now_named, now_left) refl
        | inr other ↦ rw (get_or-set_other named at slot true false other, get_or-set_other left at slot false false other) (told.once slot)
      ];
      move = λ slot yes. elim (cases_eq slot at) [
        | inl same ↦ rw same can
        | inr other ↦ told.move slot (sym (get_or-set_other named at slot true false other) ∙ yes)
      ];
      sleep = λ slot below yes. elim (cases_eq slot at) [
        | inl same ↦ absurd (both_ways _ now_left (ap (λ s. is_in (slice_set left at false) s) (sym same) ∙ yes))
        | inr other ↦ told.sleep slot (omega (arith, below, other)) (sym (get_or-set_other left at slot false false other) ∙ yes)
      ];
      named_long = length-set named at true ∙ told.named_long;
      left_long = length-set left at false ∙ told.left_long;
    }

-- One slot more, which is left, or was not noted.
pub left_more : (c : CellData) (is_over : Bool) (noted named left : List Bool) (at : ℕ) → ToldBelow c is_over noted named left at → (is_in left at ≡ true → IsIdle c is_over at) →
    ToldBelow c is_over noted named left (at + 1)
left_more c is_over noted named left at told idle = record {
  each = told.each;
  once = told.once;
  move = told.move;
  sleep = λ slot low yes. elim (cases_eq slot at) [
    | inl same ↦ rw same (idle (rw same at yes))
    | inr other ↦ told.sleep slot (omega (arith, low, other)) yes
  ];
  named_long = told.named_long;
  left_long = told.left_long;
}

-- No slot is noted.
pub none_in : (slot : ℕ) → is_in (replicate 16 false) slot ≡ false
none_in slot = elim (cases_lt slot 16) [
  | inl inside ↦ get_or-replicate 16 slot false false inside
  | inr beyond ↦ get_or_past (replicate 16 false) slot false beyond
]

-- Without any slot that is noted none is named, and none is left.
pub told_none : (c : CellData) (is_over : Bool) (noted : List Bool) → noted ≡ replicate 16 false → AreTold c is_over noted (replicate 16 false) noted
told_none c is_over noted is = record {
  each = λ slot. rw (is, none_in slot) refl;
  once = λ slot. rw (none_in slot) refl;
  move = λ slot yes. absurd (both_ways _ (none_in slot) yes);
  sleep = λ slot yes. absurd (both_ways _ (ap (λ n. is_in n slot) is ∙ none_in slot) yes);
}

-- All slots were looked at.
pub told_all : (c : CellData) (is_over : Bool) (noted named left : List Bool) → ToldBelow c is_over noted named left 16 → AreTold c is_over noted named left
told_all c is_over noted named left told = record {
  each = told.each;
  once = told.once;
  move = told.move;
  sleep = λ slot yes. elim (cases_lt slot 16) [
    | inl inside ↦ told.sleep slot inside yes
    | inr beyond ↦ absurd (both_ways _ (get_or_past left slot false (omega (arith, beyond, told.left_long))) yes)
  ];
}

-- Before the first slot.
pub told_from : (c : CellData) (is_over : Bool) (noted : List Bool) → length noted ≡ 16 → ToldBelow c is_over noted (replicate 16 false) noted 0
told_from c is_over noted long = record {
  each = λ slot. rw (none_in slot) refl;
  once = λ slot. rw (none_in slot) refl;
  move = λ slot yes. absurd (both_ways _ (none_in slot) yes);
  sleep = λ slot low yes. absurd (omega (arith, low));
  named_long = refl;
  left_long = long;
}

-- One slot more is noted, at which there is nothing to do.
pub noted_more : (c : CellData) (is_over : Bool) (noted : List Bool) (at : ℕ) → ((slot : ℕ) → is_in noted slot ≡ true → IsIdle c is_over slot) → IsIdle c is_over at → (slot : ℕ) →
    is_in (slice_set noted at true) slot ≡ true → IsIdle c is_over slot
noted_more c is_over noted at before idle slot there = elim (cases_eq slot at) [
  | inl same ↦ rw same idle
  | inr other ↦ before slot (sym (get_or-set_other noted at slot true false other) ∙ there)
]
