-- The values of trees.
use Rattle.std.specs.Prelude.{◌≡◌, ℕ, ℤ, pos, negsuc, List, Option, Some, FitsSigned, slice_index_or}
use Rattle.std.specs.Int.{int_wrapping_neg, w64}
use Rattle.source_language.specs.Meaning.{result_of, on_both}
use Rattle.source_reader.specs.Trees.{ExprTree, Constant, Variable, SlotTree, WidthTree, TwoTree}

-- the value of a tree: that of the expression
abbrev pub tree_value : ExprTree → (slot width : ℕ) → (vars : List ℤ) → Option ℤ
tree_value (Constant n) slot width vars = Some n
tree_value (Variable x) slot width vars = Some (slice_index_or vars x (pos 0))
tree_value SlotTree slot width vars = Some (pos slot)
tree_value WidthTree slot width vars = Some (pos width)
tree_value (TwoTree op a b) slot width vars = on_both (result_of op) (tree_value a slot width vars) (tree_value b slot width vars)

-- Two trees have these values, and both are numbers of 64 bits.
pub record HaveBoth (slot width : ℕ) (vars : List ℤ) (a b : ExprTree) (x y : ℤ) : Type 0 where
  pub first : tree_value a slot width vars ≡ Some x
  pub second : tree_value b slot width vars ≡ Some y
  pub first_fits : FitsSigned w64 x
  pub second_fits : FitsSigned w64 y

-- how far a number is from 0; that of -2^63 wraps
abbrev pub size : ℤ → ℤ
size (pos n) = pos n
size (negsuc n) = int_wrapping_neg w64 (negsuc n)
