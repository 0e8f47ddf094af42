-- What is packed for parameters that share the two numbers of a task is what their function takes out.
use Rattle.std.proofs.Common.{◌≡◌, ℕ, zero, suc, ◌+◌, ◌-◌, ◌<◌, ◌≤◌, ◌==◌, ◌&&◌, ◌||◌, ℤ, pos, Bool, true, false, true≢false, if◌then◌else◌}
use Rattle.std.proofs.Common.{List, [], ◌∷◌, Option, Some, None, ◌⊎◌, inl, inr, refl, sym, ap, subst, ◌∙◌, arith}
use Rattle.std.specs.Prelude.{slice_index_or}
use Rattle.std.specs.Int.{int_wrapping_add, int_shl, w64}
use Rattle.std.proofs.Math.Nat.{eq-zero-or-pos}
use Rattle.source_language.specs.declared.syntax.Operator.TheVariants as op
use Rattle.source_language.specs.Meaning.{shift_of, result_of, on_both}
use Rattle.source_reader.specs.declared.layouts.Taken.{Taken}
use Rattle.source_reader.specs.Calls.{ArgumentTrees, arguments_of, does_fit, no_arguments, with_argument}
use Rattle.source_reader.specs.Folding.{two_of}
use Rattle.source_reader.specs.Layouts.{bits_taken, has_room, nothing_taken, packed, packed_with, part_of, shifted, unpacked, with_all, with_one}
use Rattle.source_reader.specs.Trees.{ExprTree, Constant}
use Rattle.source_reader.specs.Packed.{AllFit, AreNarrow, GivesEach, HaveValues, KeepsValues, have_room, packed_arguments}
use Rattle.source_reader.specs.TreeValues.{tree_value}
use Rattle.source_reader.proofs.Bits.{not_bare}
use Rattle.source_reader.proofs.TreeSteps.{two_value}
use Rattle.source_reader.proofs.Taking.{Grown, Stayed, Grew, Holds, Bare, grown_after, grown_twice, held_after, joined, some_taken, taken_out}

-- the values of the two numbers
pub record Numbers : Type 0 where
  pub first : ℤ
  pub second : ℤ

-- with one more value, by whether the first number has room
abbrev number_if : Bool → Taken → (b : ℕ) → Numbers → ℤ → Numbers
number_if c t b p v = if c then record { first = joined t.first b p.first v; second = p.second } else record { first = p.first; second = joined t.second b p.second v }

abbrev with_number : Taken → (b : ℕ) → Numbers → ℤ → Numbers
with_number t b p v = number_if (has_room t.first b) t b p v

-- with all of them
abbrev all_numbers : Taken → (widths : List ℕ) → Numbers → List ℤ → Numbers
all_numbers t [] p vs = p
all_numbers t (b ∷ bs) p [] = p
all_numbers t (b ∷ bs) p (v ∷ vs) = all_numbers (with_one t b) bs (with_number t b p v) vs

-- From one pair of numbers to another: each is as it was, with others behind it.
record Kept (t u : Taken) (p q : Numbers) : Type 0 where
  first : (t.first ≡ 0) ⊎ Grown t.first p.first u.first q.first
  second : (t.second ≡ 0) ⊎ Grown t.second p.second u.second q.second

grown_further : (n m l : ℕ) (x y z : ℤ) → (n ≡ 0) ⊎ Grown n x m y → (m ≡ 0) ⊎ Grown m y l z → (n ≡ 0) ⊎ Grown n x l z
grown_further n m l x y z (inl e) g = inl e
grown_further n m l x y z (inr (Stayed e f)) (inl none) = inl (sym e ∙ none)
grown_further n m l x y z (inr (Grew k e small more)) (inl none) = inl (omega (arith, e, none))
grown_further n m l x y z (inr f) (inr g) = inr (grown_twice n m l x y z f g)

kept_further : (t u w : Taken) (p q r : Numbers) → Kept t u p q → Kept u w q r → Kept t w p r
kept_further t u w p q r a c = record {
  first = grown_further t.first u.first w.first p.first q.first r.first a.first c.first;
  second = grown_further t.second u.second w.second p.second q.second r.second a.second c.second;
}

grown_only : (n m : ℕ) (x z : ℤ) → 0 < n → (n ≡ 0) ⊎ Grown n x m z → Grown n x m z
grown_only n m x z some (inl none) = absurd (omega (arith, some, none))
grown_only n m x z some (inr g) = g

and_left : (c d : Bool) → c && d ≡ true → c ≡ true
and_left true d e = refl
and_left false d e = e

and_right : (c d : Bool) → c && d ≡ true → d ≡ true
and_right true d e = e
and_right false d e = absurd (true≢false (sym e))

-- by which number has room
abbrev one_if : (c d : Bool) → Taken → (b : ℕ) → Taken
one_if c d t b =
    if c then record { first = t.first + bits_taken b; second = t.second }
    else (if d then record { first = t.first; second = t.second + bits_taken b } else t)

record Stepped (t u : Taken) (p q : Numbers) : Type 0 where
  held_first : Holds u.first q.first
  held_second : Holds u.second q.second
  kept : Kept t u p q

module _ (t : Taken) (b : ℕ) (p : Numbers) (v : ℤ) (width : b ≤ 62) (fits : does_fit v b ≡ true) (held_first : Holds t.first p.first) (held_second : Holds t.second p.second) where
  stepped : (c d : Bool) → has_room t.first b ≡ c → has_room t.second b ≡ d → c || d ≡ true → Stepped t (one_if c d t b) p (number_if c t b p v)
  stepped true d e f some = record {
    held_first = held_after t.first b p.first v width fits e held_first;
    held_second = held_second;
    kept = record { first = grown_after t.first b p.first v width fits e held_first; second = inr (Stayed refl refl) };
  }
  stepped false true e f some = record {
    held_first = held_first;
    held_second = held_after t.second b p.second v width fits f held_second;
    kept = record { first = inr (Stayed refl refl); second = grown_after t.second b p.second v width fits f held_second };
  }
  stepped false false e f none = absurd (true≢false (sym none))

  module _ (all : Taken) (q : Numbers) (slot slots : ℕ) (vars : List ℤ) (first : slice_index_or vars 0 (pos 0) ≡ q.first) (second : slice_index_or vars 1 (pos 0) ≡ q.second) where
    abbrev taken_if : Bool → ExprTree
    taken_if c = if c then part_of 0 t.first (all.first - t.first - bits_taken b) b else part_of 1 t.second (all.second - t.second - bits_taken b) b

    given : (c d : Bool) → has_room t.first b ≡ c → has_room t.second b ≡ d → c || d ≡ true → Kept (one_if c d t b) all (number_if c t b p v) q → tree_value (taken_if c) slot slots vars ≡ Some v
    given true d e f some kept =
        let grown = grown_only (t.first + bits_taken b) all.first (joined t.first b p.first v) q.first (some_taken t.first b p.first v width fits e held_first) kept.first in
        taken_out t.first b p.first v width fits e held_first slot slots vars 0 all.first q.first grown first
    given false true e f some kept =
        let grown = grown_only (t.second + bits_taken b) all.second (joined t.second b p.second v) q.second (some_taken t.second b p.second v width fits f held_second) kept.second in
        taken_out t.second b p.second v width fits f held_second slot slots vars 1 all.second q.second grown second
    given false false e f none kept = absurd (true≢false (sym none))

kept_all : (t : Taken) (bs : List ℕ) (p : Numbers) (vs : List ℤ) → Holds t.first p.first → Holds t.second p.second → AreNarrow bs → have_room t bs ≡ true → AllFit bs vs
    → Kept t (with_all t bs) p (all_numbers t bs p vs)
kept_all t [] p vs h k w room f = record { first = inr (Stayed refl refl); second = inr (Stayed refl refl) }
kept_all t (b ∷ bs) p [] h k w room f = absurd f
kept_all t (b ∷ bs) p (v ∷ vs) h k w room f =
    let some = and_left _ _ room in
    let one = stepped t b p v w.0 f.0 h k (has_room t.first b) (has_room t.second b) refl refl some in
    kept_further t (with_one t b) (with_all (with_one t b) bs) p (with_number t b p v) (all_numbers (with_one t b) bs (with_number t b p v) vs) one.kept
    (kept_all (with_one t b) bs (with_number t b p v) vs one.held_first one.held_second w.1 (and_right _ _ room) f.1)

module _ (slot slots : ℕ) (vars : List ℤ) where
  given_all : (t : Taken) (bs : List ℕ) (p : Numbers) (vs : List ℤ) → Holds t.first p.first → Holds t.second p.second → AreNarrow bs → have_room t bs ≡ true → AllFit bs vs
      → slice_index_or vars 0 (pos 0) ≡ (all_numbers t bs p vs).first → slice_index_or vars 1 (pos 0) ≡ (all_numbers t bs p vs).second → GivesEach (with_all t bs) slot slots vars t bs vs
  given_all t [] p [] h k w room f first second = tt
  given_all t [] p (v ∷ vs) h k w room f first second = absurd f
  given_all t (b ∷ bs) p [] h k w room f first second = absurd f
  given_all t (b ∷ bs) p (v ∷ vs) h k w room f first second =
      let some = and_left _ _ room in
      let more = and_right _ _ room in
      let one = stepped t b p v w.0 f.0 h k (has_room t.first b) (has_room t.second b) refl refl some in
      let rest = kept_all (with_one t b) bs (with_number t b p v) vs one.held_first one.held_second w.1 more f.1 in (
        given t b p v w.0 f.0 h k (with_all (with_one t b) bs) (all_numbers (with_one t b) bs (with_number t b p v) vs) slot slots vars first second
            (has_room t.first b) (has_room t.second b) refl refl some rest,
        given_all (with_one t b) bs (with_number t b p v) vs one.held_first one.held_second w.1 more f.1 first second,
      )

module _ (slot slots : ℕ) (vars : List ℤ) where
  abbrev val : ExprTree → Option ℤ
  val e = tree_value e slot slots vars

  packed_value : (n b : ℕ) (before e : ExprTree) (x v : ℤ) → val before ≡ Some x → val e ≡ Some v → val (packed n b before e) ≡ Some (joined n b x v)
  packed_value n b before e x v was is = elim (eq-zero-or-pos n) [
    | inl none ↦ subst (λ m. val (packed m b before e) ≡ Some (joined m b x v)) (sym none) is
    | inr some ↦
        let shift : val (shifted before b) ≡ Some (int_shl w64 x (shift_of (pos b))) =
        two_value slot slots vars op.ShiftLeft before (Constant (pos b)) ∙ ap (λ o. on_both (result_of op.ShiftLeft) o (Some (pos b))) was in
        ap (λ (c : Bool). val (if c then e else two_of op.Plus (shifted before b) e)) (not_bare n some)
        ∙ two_value slot slots vars op.Plus (shifted before b) e ∙ ap (λ o. on_both (result_of op.Plus) o (val e)) shift
        ∙ ap (λ o. on_both (result_of op.Plus) (Some (int_shl w64 x (shift_of (pos b)))) o) is
        ∙ sym (ap (λ (c : Bool). Some (if c then v else int_wrapping_add w64 (int_shl w64 x (shift_of (pos b))) v)) (not_bare n some))
  ]

  record Valued (a : ArgumentTrees) (p : Numbers) : Type 0 where
    first : val a.first ≡ Some p.first
    second : val a.second ≡ Some p.second

  abbrev argument_if : Bool → Taken → (b : ℕ) → ArgumentTrees → ExprTree → ArgumentTrees
  argument_if c t b a e = arguments_of (if c then (packed t.first b a.first e, a.second) else (a.first, packed t.second b a.second e))

  one_valued : (c : Bool) (t : Taken) (b : ℕ) (a : ArgumentTrees) (p : Numbers) (e : ExprTree) (v : ℤ) → Valued a p → val e ≡ Some v → Valued (argument_if c t b a e) (number_if c t b p v)
  one_valued true t b a p e v is here = record { first = packed_value t.first b a.first e p.first v is.first here; second = is.second }
  one_valued false t b a p e v is here = record { first = is.first; second = packed_value t.second b a.second e p.second v is.second here }

  all_valued : (t : Taken) (bs : List ℕ) (a : ArgumentTrees) (p : Numbers) (es : List ExprTree) (vs : List ℤ) → Valued a p → HaveValues slot slots vars es vs
      → Valued (packed_arguments t a bs es) (all_numbers t bs p vs)
  all_valued t [] a p es vs is have = is
  all_valued t (b ∷ bs) a p [] [] is have = is
  all_valued t (b ∷ bs) a p [] (v ∷ vs) is have = absurd have
  all_valued t (b ∷ bs) a p (e ∷ es) [] is have = absurd have
  all_valued t (b ∷ bs) a p (e ∷ es) (v ∷ vs) is have =
      all_valued (with_one t b) bs (with_argument t b a e) (with_number t b p v) es vs (one_valued (has_room t.first b) t b a p e v is have.0) have.1

abbrev no_numbers : Numbers
no_numbers = record { first = pos 0; second = pos 0 }

pub widths_keep : (bs : List ℕ) (es : List ExprTree) (vs : List ℤ) (slot slots : ℕ) (vars : List ℤ) → AreNarrow bs → have_room nothing_taken bs ≡ true → AllFit bs vs → HaveValues slot slots vars es vs
    → KeepsValues bs (packed_arguments nothing_taken no_arguments bs es) slot slots vars vs
widths_keep bs es vs slot slots vars w room f have =
    let there = all_valued slot slots vars nothing_taken bs no_arguments no_numbers es vs (record { first = refl; second = refl }) have in
    let all = all_numbers nothing_taken bs no_numbers vs in
    record {
      first = all.first;
      second = all.second;
      first_is = there.first;
      second_is = there.second;
      given = λ s n frame e g. given_all s n frame nothing_taken bs no_numbers vs (Bare refl) (Bare refl) w room f e g;
    }
