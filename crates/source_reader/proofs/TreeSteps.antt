-- The value of a tree, step by step.
use Rattle.std.proofs.Common.{◌≡◌, ℕ, ℤ, List, Option, Some, None, refl, sym, ap, ◌∙◌}
use Rattle.source_language.specs.declared.syntax.Expr.{Expr}
use Rattle.source_language.specs.declared.syntax.Expr.TheVariants as expr
use Rattle.source_language.specs.declared.syntax.Operator.{Operator}
use Rattle.source_language.specs.Meaning.{result_of, on_both, value_of}
use Rattle.source_reader.specs.Folding.{two_of, constant_or}
use Rattle.source_reader.specs.Trees.{ExprTree, Constant, Variable, SlotTree, WidthTree, TwoTree, tree_of}
use Rattle.source_reader.specs.TreeValues.{tree_value}

-- of two trees the operator's result, whether it is computed here or later
module _ (slot slots : ℕ) (vars : List ℤ) where
  abbrev val : ExprTree → Option ℤ
  val e = tree_value e slot slots vars

  constant_value : (o : Operator) (x y : ℤ) (r : Option ℤ) → result_of o x y ≡ r → val (constant_or r (TwoTree o (Constant x) (Constant y))) ≡ result_of o x y
  constant_value o x y (Some z) e = sym e
  constant_value o x y None e = refl

  pub two_value : (o : Operator) (a b : ExprTree) → val (two_of o a b) ≡ on_both (result_of o) (val a) (val b)
  two_value o (Constant x) (Constant y) = constant_value o x y (result_of o x y) refl
  two_value o (Constant x) (Variable j) = refl
  two_value o (Constant x) SlotTree = refl
  two_value o (Constant x) WidthTree = refl
  two_value o (Constant x) (TwoTree p c d) = refl
  two_value o (Variable i) b = refl
  two_value o SlotTree b = refl
  two_value o WidthTree b = refl
  two_value o (TwoTree p c d) b = refl

pub value_of_tree : (e : Expr) (slot slots : ℕ) (vars : List ℤ) → tree_value (tree_of e) slot slots vars ≡ value_of e slot slots vars
value_of_tree (expr.Number n) slot slots vars = refl
value_of_tree (expr.Variable x) slot slots vars = refl
value_of_tree expr.Slot slot slots vars = refl
value_of_tree expr.Width slot slots vars = refl
value_of_tree (expr.Two' o p a q b) slot slots vars =
    ap (λ x. on_both (result_of o) x (tree_value (tree_of b) slot slots vars)) (value_of_tree a slot slots vars)
    ∙ ap (λ y. on_both (result_of o) (value_of a slot slots vars) y) (value_of_tree b slot slots vars)
