-- What `min`, `max` and `abs` are made of has their values.
use Rattle.std.proofs.Common.{◌≡◌, ℕ, ◌+◌, ◌-◌, ◌*◌, ◌%◌, ◌<◌, ◌^◌, ℤ, pos, negsuc, Bool, true, false, if◌then◌else◌, List, Option, Some, None, refl, sym, ap, subst, ◌∙◌, arith, FitsSigned}
use Rattle.std.specs.Prelude.{int_lt}
use Rattle.std.specs.Int.{int_max, int_min, int_wrap, int_wrapping_add, int_wrapping_mul, int_wrapping_sub, cast_signed, cast_unsigned, w64}
use Rattle.std.proofs.lemmas.Int.{ints, fits_signed_from_abs, SFits-int_wrap, int_wrap-add_right, int_wrap_fits, to_z-of_z, wrapping_add_is, wrapping_mul_is, wrapping_sub_is}
use Rattle.std.proofs.Math.Nat.{mod-eq_of_lt}
use mir.ValLaws.{of_z_fits}
use Rattle.std.proofs.Math.IntN.{+ℤ_comm, -ℤ-+ℤ_cancel, *ℤ-one, *ℤ-zero}
use lib.IntN.{◌+ℤ◌, ◌-ℤ◌, ◌*ℤ◌}
use Rattle.source_language.specs.declared.syntax.Operator.TheVariants as op
use Rattle.source_language.specs.Meaning.{result_of, on_both}
use Rattle.source_reader.specs.BuiltIns.{extreme, is_first}
use Rattle.source_reader.specs.Folding.{two_of}
use Rattle.source_reader.specs.Trees.{ExprTree}
use Rattle.source_reader.specs.TreeValues.{HaveBoth, tree_value}
use Rattle.source_reader.specs.declared.built_ins.Taken.{Taken}
use Rattle.source_reader.specs.declared.built_ins.Taken.TheVariants as which
use Rattle.source_reader.proofs.TreeSteps.{two_value}

one_fits : FitsSigned w64 (pos 1)
one_fits = fits_signed_from_abs w64 (pos 1) (omega arith)

none_fits : FitsSigned w64 (pos 0)
none_fits = fits_signed_from_abs w64 (pos 0) (omega arith)

-- the second number, and so often the difference of both
abbrev summed : (x y t : ℤ) → ℤ
summed x y t = int_wrapping_add w64 y (int_wrapping_mul w64 (int_wrapping_sub w64 x y) t)

module _ (x y : ℤ) (fx : FitsSigned w64 x) (fy : FitsSigned w64 y) where
  abbrev gap : ℤ
  gap = int_wrapping_sub w64 x y

  gap_is : gap ≡ int_wrap w64 (x -ℤ y)
  gap_is = wrapping_sub_is w64 x y fx fy

  gap_fits : FitsSigned w64 gap
  gap_fits = subst (FitsSigned w64) (sym gap_is) (SFits-int_wrap w64 (x -ℤ y))

  once : summed x y (pos 1) ≡ x
  unfolding lib.IntN.one
  once =
      let same : int_wrapping_mul w64 gap (pos 1) ≡ gap = wrapping_mul_is w64 gap (pos 1) gap_fits one_fits ∙ ap (int_wrap w64) (*ℤ-one gap) ∙ int_wrap_fits w64 gap gap_fits in
      let back : y +ℤ (x -ℤ y) ≡ x = +ℤ_comm y (x -ℤ y) ∙ -ℤ-+ℤ_cancel x y in
      ap (int_wrapping_add w64 y) same ∙ wrapping_add_is w64 y gap fy gap_fits ∙ ap (λ g. int_wrap w64 (y +ℤ g)) gap_is
      ∙ int_wrap-add_right w64 y (x -ℤ y) ∙ ap (int_wrap w64) back ∙ int_wrap_fits w64 x fx

  never : summed x y (pos 0) ≡ y
  never =
      let same : int_wrapping_mul w64 gap (pos 0) ≡ pos 0 = wrapping_mul_is w64 gap (pos 0) gap_fits none_fits ∙ ap (int_wrap w64) (*ℤ-zero gap) ∙ int_wrap_fits w64 (pos 0) none_fits in
      ap (int_wrapping_add w64 y) same ∙ nothing_added
    where
      low : cast_unsigned w64 y < 2 ^ 64
      low = (of_z_fits w64 y fy).fits

      nothing_added : int_wrapping_add w64 y (pos 0) ≡ y
      nothing_added =
          let same : cast_unsigned w64 y + 0 ≡ cast_unsigned w64 y = omega arith in
          ap (λ n. cast_signed w64 (n % 2 ^ 64)) same ∙ ap (cast_signed w64) (mod-eq_of_lt low) ∙ to_z-of_z w64 y fy

  by_first : (c : Bool) → summed x y (if c then pos 1 else pos 0) ≡ (if c then x else y)
  by_first true = once
  by_first false = never

least : (x y : ℤ) → (if int_lt x y then x else y) ≡ int_min x y
least x y = by (int_lt x y) (int_lt y x) refl refl
  where
    by : (c d : Bool) → int_lt x y ≡ c → int_lt y x ≡ d → (if c then x else y) ≡ (if d then y else x)
    by true true e f = absurd (omega (arith, ints))
    by true false e f = refl
    by false true e f = refl
    by false false e f = omega (arith, ints)

module _ (slot slots : ℕ) (vars : List ℤ) (a b : ExprTree) (x y : ℤ) (have : HaveBoth slot slots vars a b x y) where
  abbrev val : ExprTree → Option ℤ
  val e = tree_value e slot slots vars

  summed_value : (t : ExprTree) (z : ℤ) → val t ≡ Some z → val (two_of op.Plus b (two_of op.Times (two_of op.Minus a b) t)) ≡ Some (summed x y z)
  summed_value t z is =
      let gap : val (two_of op.Minus a b) ≡ Some (int_wrapping_sub w64 x y) =
      two_value slot slots vars op.Minus a b ∙ ap (λ o. on_both (result_of op.Minus) o (val b)) have.first ∙ ap (on_both (result_of op.Minus) (Some x)) have.second in
      let part : val (two_of op.Times (two_of op.Minus a b) t) ≡ Some (int_wrapping_mul w64 (int_wrapping_sub w64 x y) z) =
      two_value slot slots vars op.Times (two_of op.Minus a b) t ∙ ap (λ o. on_both (result_of op.Times) o (val t)) gap ∙ ap (on_both (result_of op.Times) (Some (int_wrapping_sub w64 x y))) is in
      two_value slot slots vars op.Plus b (two_of op.Times (two_of op.Minus a b) t) ∙ ap (λ o. on_both (result_of op.Plus) o (val (two_of op.Times (two_of op.Minus a b) t))) have.second
      ∙ ap (on_both (result_of op.Plus) (Some y)) part

  below_value : (c d : ExprTree) (u v : ℤ) → val c ≡ Some u → val d ≡ Some v → val (two_of op.Below c d) ≡ Some (if int_lt u v then pos 1 else pos 0)
  below_value c d u v e f = two_value slot slots vars op.Below c d ∙ ap (λ o. on_both (result_of op.Below) o (val d)) e ∙ ap (on_both (result_of op.Below) (Some u)) f

  pub least_value : val (extreme which.Least a b) ≡ Some (int_min x y)
  least_value =
      summed_value (is_first which.Least a b) (if int_lt x y then pos 1 else pos 0) (below_value a b x y have.first have.second)
      ∙ ap Some (by_first x y have.first_fits have.second_fits (int_lt x y) ∙ least x y)

  pub greatest_value : val (extreme which.Greatest a b) ≡ Some (int_max x y)
  greatest_value =
      summed_value (is_first which.Greatest a b) (if int_lt y x then pos 1 else pos 0) (below_value b a y x have.second have.first)
      ∙ ap Some (by_first x y have.first_fits have.second_fits (int_lt y x))
