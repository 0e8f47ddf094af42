-- Conditions as numbers: 1 if they hold, else 0.
use Rattle.std.specs.Prelude.{pos, Bool, true, false, not, ◌||◌, if◌then◌else◌}
use Rattle.source_language.specs.declared.syntax.Operator.{Operator}
use Rattle.source_language.specs.declared.syntax.Operator.TheVariants as op
use Rattle.source_language.specs.Meaning.{is_nought}
use Rattle.source_reader.specs.Trees.{ExprTree, TestTree, Constant, TwoTree, HoldsTree, NotTree, BothTree, EitherTree}
use Rattle.source_reader.specs.Folding.{two_of}

abbrev pub may_be_nought : ExprTree → Bool
may_be_nought (Constant z) = is_nought z
may_be_nought e = true

-- whether an operator may have no result, by its right operand
abbrev pub may_fail : Operator → ExprTree → Bool
may_fail op.Over b = may_be_nought b
may_fail op.Remainder b = may_be_nought b
may_fail o b = false

-- whether an expression may divide by 0
abbrev pub may_divide : ExprTree → Bool
may_divide (TwoTree o a b) = (may_divide a || may_divide b) || may_fail o b
may_divide e = false

abbrev pub test_may_divide : TestTree → Bool
test_may_divide (HoldsTree e) = may_divide e
test_may_divide (NotTree t) = test_may_divide t
test_may_divide (BothTree a b) = test_may_divide a || test_may_divide b
test_may_divide (EitherTree a b) = test_may_divide a || test_may_divide b

-- whether what is skipped, which stands behind `&&` or `||`, may divide by 0
abbrev pub may_skip : TestTree → Bool
may_skip (HoldsTree e) = false
may_skip (NotTree t) = may_skip t
may_skip (BothTree a b) = may_skip a || test_may_divide b
may_skip (EitherTree a b) = may_skip a || test_may_divide b

abbrev pub is_comparison : Operator → Bool
is_comparison op.Below = true
is_comparison op.AtMost = true
is_comparison op.Equal = true
is_comparison o = false

-- whether an expression is always 1 or 0
abbrev pub is_bit : ExprTree → Bool
is_bit (TwoTree o a b) = is_comparison o
is_bit e = false

abbrev pub is_0 : ExprTree → ExprTree
is_0 e = two_of op.Equal e (Constant (pos 0))

-- 1 if a number is not 0, else 0; or, if `want` is false, the other way round
abbrev pub holding : (want : Bool) → ExprTree → ExprTree
holding true e = if is_bit e then e else is_0 (is_0 e)
holding false e = is_0 e

abbrev pub joining : Bool → Operator
joining true = op.BitAnd
joining false = op.BitOr

-- 1 if the condition is as it says, else 0. Both sides of `&&` and `||` are computed.
abbrev pub bit_of : (want : Bool) → TestTree → ExprTree
bit_of want (HoldsTree e) = holding want e
bit_of want (NotTree t) = bit_of (not want) t
bit_of want (BothTree a b) = two_of (joining want) (bit_of want a) (bit_of want b)
bit_of want (EitherTree a b) = two_of (joining (not want)) (bit_of want a) (bit_of want b)
