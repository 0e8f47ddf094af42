-- An operator gives 0 exactly if its opposite, of the same numbers exchanged, does not.
use Rattle.std.proofs.Common.{◌≡◌, ℕ, zero, suc, ◌+◌, ◌-◌, ◌<◌, ◌%◌, ◌^◌, ℤ, pos, negsuc, Bool, true, false, true≢false, not, if◌then◌else◌, List, Option, Some, None, option_map, refl, sym, ap}
use Rattle.std.proofs.Common.{◌∙◌, arith, FitsSigned}
use Rattle.std.specs.Prelude.{int_lt, int_le}
use Rattle.std.specs.Int.{int_wrapping_sub, cast_unsigned, cast_signed, w64}
use Rattle.std.specs.Ordering.{int_eq}
use Rattle.std.proofs.lemmas.Bool.Decides.{Decides-int_eq}
use Rattle.std.proofs.lemmas.Int.{ints, of_z-to_z, to_z-of_z}
use mir.ValLaws.{of_z_fits}
use Rattle.source_language.specs.declared.syntax.Operator.TheVariants.{Equal}
use Rattle.source_language.specs.declared.syntax.Expr.{Expr}
use Rattle.source_language.specs.declared.syntax.Expr.TheVariants.{Number, Variable, Slot, Width, Two'}
use Rattle.source_language.specs.Meaning.{is_nought, result_of, on_both, value_of}
use Rattle.job_compiler.specs.Code.{is_zero}

-- of two results one is 0 and the other is not
abbrev pub AreOpposed : Option ℤ → Option ℤ → Type 0
AreOpposed None o = ⊥
AreOpposed (Some v) None = ⊥
AreOpposed (Some v) (Some w) = is_nought w ≡ not (is_nought v)

bit_nought : (b : Bool) → is_nought (if b then pos 1 else pos 0) ≡ not b
bit_nought true = refl
bit_nought false = refl

twice : (b : Bool) → not (not b) ≡ b
twice true = refl
twice false = refl

at_most : (x y : ℤ) → int_le y x ≡ not (int_lt x y)
at_most x y = by (int_lt x y) (int_le y x) refl refl
  where
    by : (s t : Bool) → int_lt x y ≡ s → int_le y x ≡ t → t ≡ not s
    by true true e f = absurd (omega (arith, ints))
    by true false e f = refl
    by false true e f = refl
    by false false e f = absurd (omega (arith, ints))

pub below_opposed : (x y : ℤ) → is_nought (if int_le y x then pos 1 else pos 0) ≡ not (is_nought (if int_lt x y then pos 1 else pos 0))
below_opposed x y = bit_nought (int_le y x) ∙ ap not (at_most x y) ∙ sym (ap not (bit_nought (int_lt x y)))

pub at_most_opposed : (x y : ℤ) → is_nought (if int_lt y x then pos 1 else pos 0) ≡ not (is_nought (if int_le x y then pos 1 else pos 0))
at_most_opposed x y = bit_nought (int_lt y x) ∙ sym (ap not (bit_nought (int_le x y)) ∙ twice (int_le x y) ∙ at_most y x)

-- the difference of two numbers is 0 exactly if they are the same
module _ (x y : ℤ) (fx : FitsSigned w64 x) (fy : FitsSigned w64 y) where
  abbrev ux : ℕ
  ux = cast_unsigned w64 x

  abbrev uy : ℕ
  uy = cast_unsigned w64 y

  abbrev rest : ℕ
  rest = (uy + (2 ^ 64 - ux)) % 2 ^ 64

  same_rest : ux ≡ uy → rest ≡ 0
  same_rest e = let low : ux < 2 ^ 64 = (of_z_fits w64 x fx).fits in omega (arith, low, e)

  no_rest : rest ≡ 0 → ux ≡ uy
  no_rest e =
      let low : ux < 2 ^ 64 = (of_z_fits w64 x fx).fits in
      let low' : uy < 2 ^ 64 = (of_z_fits w64 y fy).fits in
      omega (arith, low, low', e)

  nought_is : (z : ℤ) → is_nought z ≡ true → z ≡ pos 0
  nought_is (pos zero) e = refl
  nought_is (pos (suc n)) e = absurd (true≢false (sym e))
  nought_is (negsuc n) e = absurd (true≢false (sym e))

  pub sub_nought : is_nought (int_wrapping_sub w64 y x) ≡ int_eq x y
  sub_nought = by (is_nought (cast_signed w64 rest)) (int_eq x y) refl refl
    where
      by : (s t : Bool) → is_nought (cast_signed w64 rest) ≡ s → int_eq x y ≡ t → s ≡ t
      by true true e f = refl
      by false false e f = refl
      by true false e f =
          let below : rest < 2 ^ 64 = omega arith in
          let none : rest ≡ 0 = sym (of_z-to_z w64 rest below) ∙ ap (cast_unsigned w64) (nought_is (cast_signed w64 rest) e) in
          let same : x ≡ y = sym (to_z-of_z w64 x fx) ∙ ap (cast_signed w64) (no_rest none) ∙ to_z-of_z w64 y fy in
          sym ((Decides-int_eq x y).1 same) ∙ f
      by false true e f =
          let same : x ≡ y = (Decides-int_eq x y).0 f in
          sym e ∙ ap (λ n. is_nought (cast_signed w64 n)) (same_rest (ap (cast_unsigned w64) same))

pub equal_opposed : (x y : ℤ) → FitsSigned w64 x → FitsSigned w64 y → is_nought (int_wrapping_sub w64 y x) ≡ not (is_nought (if int_eq x y then pos 1 else pos 0))
equal_opposed x y fx fy = sub_nought x y fx fy ∙ sym (ap not (bit_nought (int_eq x y)) ∙ twice (int_eq x y))

pub minus_opposed : (x y : ℤ) → FitsSigned w64 x → FitsSigned w64 y → is_nought (if int_eq y x then pos 1 else pos 0) ≡ not (is_nought (int_wrapping_sub w64 x y))
minus_opposed x y fx fy = bit_nought (int_eq y x) ∙ ap not (sym (sub_nought y x fy fx))

zero_is : (x : ℤ) → is_nought x ≡ int_eq x (pos 0)
zero_is x = by (is_nought x) (int_eq x (pos 0)) refl refl
  where
    nought : (z : ℤ) → is_nought z ≡ true → z ≡ pos 0
    nought (pos zero) e = refl
    nought (pos (suc n)) e = absurd (true≢false (sym e))
    nought (negsuc n) e = absurd (true≢false (sym e))

    by : (s t : Bool) → is_nought x ≡ s → int_eq x (pos 0) ≡ t → s ≡ t
    by true true e f = refl
    by false false e f = refl
    by true false e f = sym ((Decides-int_eq x (pos 0)).1 (nought x e)) ∙ f
    by false true e f = sym e ∙ ap is_nought ((Decides-int_eq x (pos 0)).0 f)

-- A comparison with 0 holds exactly if the value is 0.
pub compared_same : (b : Expr) (slot width : ℕ) (vars : List ℤ) (o : Option ℤ) → is_zero b ≡ true
    → option_map not (option_map (λ v. not (is_nought v)) o) ≡ option_map (λ v. not (is_nought v)) (on_both (result_of Equal) o (value_of b slot width vars))
compared_same b slot width vars None e = refl
compared_same (Number (pos zero)) slot width vars (Some x) e =
    ap Some (twice (is_nought x) ∙ zero_is x ∙ sym (ap not (bit_nought (int_eq x (pos 0))) ∙ twice (int_eq x (pos 0))))
compared_same (Number (pos (suc n))) slot width vars (Some x) e = absurd (true≢false (sym e))
compared_same (Number (negsuc n)) slot width vars (Some x) e = absurd (true≢false (sym e))
compared_same (Variable y) slot width vars (Some x) e = absurd (true≢false (sym e))
compared_same Slot slot width vars (Some x) e = absurd (true≢false (sym e))
compared_same Width slot width vars (Some x) e = absurd (true≢false (sym e))
compared_same (Two' op p c q d) slot width vars (Some x) e = absurd (true≢false (sym e))
