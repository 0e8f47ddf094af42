-- One parameter in a number that several may share: how the number grows, and what is taken out of it later.
use Rattle.std.proofs.Common.{◌≡◌, ◌≢◌, ℕ, zero, suc, ◌+◌, ◌-◌, ◌*◌, ◌<◌, ◌≤◌, ◌^◌, ◌==◌, ◌&&◌, ◌||◌, ℤ, pos, Bool, true}
use Rattle.std.proofs.Common.{false, if◌then◌else◌, List, Option, Some, None, ◌⊎◌, inl, inr, refl, sym, ap, subst, ◌∙◌, arith}
use Rattle.std.specs.Prelude.{nat_lt, slice_index_or}
use Rattle.std.specs.Int.{int_wrapping_add, int_wrapping_sub, int_bit_and, int_shl, int_shr, cast_unsigned, w64}
use Rattle.std.proofs.lemmas.Bool.Decides.{nat_tests}
use Rattle.std.proofs.lemmas.Nat.{pow-add}
use Rattle.std.proofs.Math.Nat.{add-mul, eq-zero-or-pos, mul_assoc}
use Rattle.source_language.specs.declared.syntax.Operator.{Operator}
use Rattle.source_language.specs.declared.syntax.Operator.TheVariants as op
use Rattle.source_language.specs.Meaning.{shift_of, result_of, on_both}
use Rattle.source_reader.specs.Calls.{does_fit}
use Rattle.source_reader.specs.Folding.{two_of, constant_or}
use Rattle.source_reader.specs.Layouts.{has_room, bits_taken, packed, shifted, ones, without_low, part_of}
use Rattle.source_reader.specs.Trees.{ExprTree, Constant, Variable, SlotTree, WidthTree, TwoTree}
use Rattle.source_reader.specs.TreeValues.{tree_value}
use Rattle.source_reader.proofs.Bits.{Fitting, fitting, not_bare, shift_is, shl_is, joined_is, joined_low, shr_is, ones_are, masked_is}

-- What is known of a number, of which so many bits are taken: nothing yet, all of it by one parameter, or by some that share it.
pub data Holds (n : ℕ) (x : ℤ) : Type 0 where
  Bare : n ≡ 0 → Holds n x
  Whole : 64 ≤ n → Holds n x
  Shared : 0 < n → n ≤ 63 → Fitting x n → Holds n x

-- with k bits behind it
pub record Longer (x : ℤ) (k : ℕ) (z : ℤ) : Type 0 where
  pub number : ℕ
  pub below : ℕ
  pub was : x ≡ pos number
  pub is : z ≡ pos (number * 2 ^ k + below)
  pub low : below < 2 ^ k

-- from n bits to m bits
pub data Grown (n : ℕ) (x : ℤ) (m : ℕ) (z : ℤ) : Type 0 where
  Stayed : m ≡ n → z ≡ x → Grown n x m z
  Grew : (k : ℕ) → m ≡ n + k → m ≤ 63 → Longer x k z → Grown n x m z

twice : (a b c j k : ℕ) → (a * 2 ^ j + b) * 2 ^ k + c ≡ a * 2 ^ (j + k) + (b * 2 ^ k + c)
twice a b c j k =
    let all : a * 2 ^ (j + k) ≡ a * 2 ^ j * 2 ^ k = ap (λ m. a * m) (pow-add 2 j k) ∙ sym (mul_assoc a (2 ^ j) (2 ^ k)) in
    omega (arith, add-mul (a * 2 ^ j) b (2 ^ k), all)

longer_twice : (x y z : ℤ) (j k : ℕ) → Longer x j y → Longer y k z → Longer x (j + k) z
longer_twice x y z j k a c =
    let same : c.number ≡ a.number * 2 ^ j + a.below = ap (cast_unsigned w64) (sym c.was ∙ a.is) in
    record {
      number = a.number;
      below = a.below * 2 ^ k + c.below;
      was = a.was;
      is = c.is ∙ ap (λ m. pos (m * 2 ^ k + c.below)) same ∙ ap pos (twice a.number a.below c.below j k);
      low = joined_low a.below j c.below k a.low c.low;
    }

pub grown_twice : (n m l : ℕ) (x y z : ℤ) → Grown n x m y → Grown m y l z → Grown n x l z
grown_twice n m l x y z (Stayed e f) (Stayed g h) = Stayed (g ∙ e) (h ∙ f)
grown_twice n m l x y z (Stayed e f) (Grew k g small more) = Grew k (g ∙ ap (λ i. i + k) e) small (subst (λ u. Longer u k z) f more)
grown_twice n m l x y z (Grew k e small more) (Stayed g h) = Grew k (g ∙ e) (omega (arith, g, small)) (subst (λ u. Longer x k u) (sym h) more)
grown_twice n m l x y z (Grew j e small more) (Grew k g few most) = Grew (j + k) (omega (arith, e, g)) few (longer_twice x y z j k more most)

-- a number of n bits with one more value, of a parameter of b bits
abbrev pub joined : (n b : ℕ) → (x v : ℤ) → ℤ
joined n b x v = if n == 0 then v else int_wrapping_add w64 (int_shl w64 x (shift_of (pos b))) v

joined_bare : (n b : ℕ) (x v : ℤ) → n ≡ 0 → joined n b x v ≡ v
joined_bare zero b x v e = refl
joined_bare (suc n) b x v e = absurd (omega (arith, e))

joined_more : (n b : ℕ) (x v : ℤ) → 0 < n → joined n b x v ≡ int_wrapping_add w64 (int_shl w64 x (shift_of (pos b))) v
joined_more n b x v some = ap (λ (c : Bool). if c then v else int_wrapping_add w64 (int_shl w64 x (shift_of (pos b))) v) (not_bare n some)

-- what it means that there is room
room_of : (n b : ℕ) → has_room n b ≡ true → (n ≡ 0) ⊎ ((0 < b) × (n + b < 64))
room_of n b e = grind (arith, nat_tests, e)

taken_none : (b : ℕ) → b ≡ 0 → bits_taken b ≡ 64
taken_none zero e = refl
taken_none (suc b) e = absurd (omega (arith, e))

taken_some : (b : ℕ) → 0 < b → bits_taken b ≡ b
taken_some b some = ap (λ (c : Bool). if c then 64 else b) (not_bare b some)

bare_same : (y z : ℤ) (k : ℕ) → k ≡ 0 → Longer y k z → z ≡ y
bare_same y z k e more =
    let one : 2 ^ k ≡ 1 = ap (λ j. 2 ^ j) e in
    let none : more.below ≡ 0 = omega (arith, more.low, one) in
    let same : more.number * 2 ^ k + more.below ≡ more.number = ap (λ m. more.number * m + more.below) one ∙ omega (arith, none) in
    more.is ∙ ap pos same ∙ sym more.was

module _ (slot slots : ℕ) (vars : List ℤ) (i : ℕ) where
  shifted_back : (k : ℕ) (y z : ℤ) → 0 < k → k ≤ 63 → Longer y k z → slice_index_or vars i (pos 0) ≡ z → tree_value (without_low i k) slot slots vars ≡ Some y
  shifted_back k y z some small more there =
      ap (λ (c : Bool). tree_value (if c then Variable i else TwoTree op.ShiftRight (Variable i) (Constant (pos k))) slot slots vars) (not_bare k some)
      ∙ ap (λ a. Some (int_shr a (shift_of (pos k)))) (there ∙ more.is)
      ∙ ap (λ j. Some (int_shr (pos (more.number * 2 ^ k + more.below)) j)) (shift_is k (omega (arith, small)))
      ∙ ap Some (shr_is more.number k more.below more.low ∙ sym more.was)

  untouched : (k : ℕ) (y : ℤ) → k ≡ 0 → slice_index_or vars i (pos 0) ≡ y → tree_value (without_low i k) slot slots vars ≡ Some y
  untouched k y e there = subst (λ j. tree_value (without_low i j) slot slots vars ≡ Some y) (sym e) (ap Some there)

  -- what is left of a number without the bits behind one that it was
  pub without : (m n : ℕ) (y z : ℤ) → Grown m y n z → slice_index_or vars i (pos 0) ≡ z → tree_value (without_low i (n - m)) slot slots vars ≡ Some y
  without m n y z (Stayed e f) there = untouched (n - m) y (omega (arith, e)) (there ∙ f)
  without m n y z (Grew k e small more) there =
      let left : n - m ≡ k = omega (arith, e) in
      subst (λ j. tree_value (without_low i j) slot slots vars ≡ Some y) (sym left) (elim (eq-zero-or-pos k) [
        | inl none ↦ untouched k y none (there ∙ bare_same y z k none more)
        | inr some ↦ shifted_back k y z some (omega (arith, e, small)) more there
      ])

  -- the lowest bits of that
  lowest : (above low b : ℕ) (x v : ℕ) → 0 < above → b ≤ 62 → v < 2 ^ b → tree_value (without_low i low) slot slots vars ≡ Some (pos (x * 2 ^ b + v))
      → tree_value (part_of i above low b) slot slots vars ≡ Some (pos v)
  lowest above low b x v some width fits is =
      let all = ap (λ k. Some (int_wrapping_sub w64 (int_shl w64 (pos 1) k) (pos 1))) (shift_is b (omega (arith, width))) ∙ ap Some (ones_are b width) in
      ap (λ (c : Bool). tree_value (if c then without_low i low else TwoTree op.BitAnd (without_low i low) (ones b)) slot slots vars) (not_bare above some)
      ∙ ap (λ o. on_both (result_of op.BitAnd) o (tree_value (ones b) slot slots vars)) is
      ∙ ap (λ o. on_both (result_of op.BitAnd) (Some (pos (x * 2 ^ b + v))) o) all
      ∙ ap Some (masked_is x v b fits width)

  highest : (above low b : ℕ) (v : ℤ) → above ≡ 0 → tree_value (without_low i low) slot slots vars ≡ Some v → tree_value (part_of i above low b) slot slots vars ≡ Some v
  highest above low b v none is = subst (λ a. tree_value (part_of i a low b) slot slots vars ≡ Some v) (sym none) is

module _ (n b : ℕ) (x v : ℤ) (width : b ≤ 62) (fits : does_fit v b ≡ true) (room : has_room n b ≡ true) (held : Holds n x) where
  -- behind others that share the number
  module _ (some : 0 < n) (f : Fitting x n) (wide : 0 < b) (within : n + b < 64) where
    own : Fitting v b
    own = fitting v b wide width fits

    joined_there : joined n b x v ≡ pos (f.number * 2 ^ b + own.number)
    joined_there =
        let shift : int_shl w64 x (shift_of (pos b)) ≡ pos (f.number * 2 ^ b) =
        ap (λ z. int_shl w64 z (shift_of (pos b))) f.is ∙ ap (int_shl w64 (pos f.number)) (shift_is b (omega (arith, width))) ∙ shl_is f.number n b f.low (omega (arith, within)) in
        joined_more n b x v some ∙ ap (λ z. int_wrapping_add w64 z v) shift ∙ ap (int_wrapping_add w64 (pos (f.number * 2 ^ b))) own.is
        ∙ joined_is f.number n own.number b f.low own.low (omega (arith, within))

    longer_there : Longer x b (joined n b x v)
    longer_there = record { number = f.number; below = own.number; was = f.is; is = joined_there; low = own.low }

    fitting_there : Fitting (joined n b x v) (n + b)
    fitting_there = record { number = f.number * 2 ^ b + own.number; is = joined_there; low = joined_low f.number n own.number b f.low own.low }

  own_first : n ≡ 0 → 0 < b → Fitting (joined n b x v) (n + b)
  own_first none wide =
      let own = fitting v b wide width fits in
      record { number = own.number; is = joined_bare n b x v none ∙ own.is; low = subst (λ m. own.number < 2 ^ m) (omega (arith, none)) own.low }

  held_first : n ≡ 0 → Holds (n + bits_taken b) (joined n b x v)
  held_first none = elim (eq-zero-or-pos b) [
    | inl bare ↦ Whole (omega (arith, taken_none b bare))
    | inr wide ↦ subst (λ m. Holds (n + m) (joined n b x v)) (sym (taken_some b wide)) (Shared (omega (arith, wide)) (omega (arith, none, width)) (own_first none wide))
  ]

  held_next : 0 < b → n + b < 64 → Holds n x → Holds (n + b) (joined n b x v)
  held_next wide within (Bare e) = Shared (omega (arith, wide)) (omega (arith, within)) (own_first e wide)
  held_next wide within (Whole all) = absurd (omega (arith, all, within))
  held_next wide within (Shared some small f) = Shared (omega (arith, some)) (omega (arith, within)) (fitting_there some f wide within)

  pub held_after : Holds (n + bits_taken b) (joined n b x v)
  held_after = elim (room_of n b room) [
    | inl none ↦ held_first none
    | inr more ↦ subst (λ m. Holds (n + m) (joined n b x v)) (sym (taken_some b more.0)) (held_next more.0 more.1 held)
  ]

  grown_next : 0 < b → n + b < 64 → Holds n x → (n ≡ 0) ⊎ Grown n x (n + b) (joined n b x v)
  grown_next wide within (Bare e) = inl e
  grown_next wide within (Whole all) = absurd (omega (arith, all, within))
  grown_next wide within (Shared some small f) = inr (Grew b refl (omega (arith, within)) (longer_there some f wide within))

  pub grown_after : (n ≡ 0) ⊎ Grown n x (n + bits_taken b) (joined n b x v)
  grown_after = elim (room_of n b room) [
    | inl none ↦ inl none
    | inr more ↦ subst (λ m. (n ≡ 0) ⊎ Grown n x (n + m) (joined n b x v)) (sym (taken_some b more.0)) (grown_next more.0 more.1 held)
  ]

  pub some_taken : 0 < n + bits_taken b
  some_taken = elim (eq-zero-or-pos b) [
    | inl bare ↦ omega (arith, taken_none b bare)
    | inr wide ↦ omega (arith, taken_some b wide, wide)
  ]

  module _ (slot slots : ℕ) (vars : List ℤ) (i m : ℕ) (z : ℤ) (grown : Grown (n + bits_taken b) (joined n b x v) m z) (there : slice_index_or vars i (pos 0) ≡ z) where
    left : tree_value (without_low i (m - n - bits_taken b)) slot slots vars ≡ Some (joined n b x v)
    left = subst (λ k. tree_value (without_low i k) slot slots vars ≡ Some (joined n b x v)) (omega arith) (without slot slots vars i (n + bits_taken b) m (joined n b x v) z grown there)

    left_first : n ≡ 0 → tree_value (part_of i n (m - n - bits_taken b) b) slot slots vars ≡ Some v
    left_first none = highest slot slots vars i n (m - n - bits_taken b) b v none (left ∙ ap Some (joined_bare n b x v none))

    left_next : 0 < b → n + b < 64 → Holds n x → tree_value (part_of i n (m - n - bits_taken b) b) slot slots vars ≡ Some v
    left_next wide within (Bare e) = left_first e
    left_next wide within (Whole all) = absurd (omega (arith, all, within))
    left_next wide within (Shared some small f) =
        let own = own some f wide within in
        lowest slot slots vars i n (m - n - bits_taken b) b f.number own.number some width own.low (left ∙ ap Some (joined_there some f wide within)) ∙ ap Some (sym own.is)

    -- The parameter's value is taken out again, once others may stand behind it.
    pub taken_out : tree_value (part_of i n (m - n - bits_taken b) b) slot slots vars ≡ Some v
    taken_out = elim (room_of n b room) [
      | inl none ↦ left_first none
      | inr more ↦ left_next more.0 more.1 held
    ]
