-- What is inserted where an inline function is used: its value, with arguments in place of parameters.
use Rattle.std.specs.Prelude.{ℕ, ◌+◌, ◌-◌, ◌==◌, nat_lt, pos, List, [], ◌∷◌, Result, Ok, Err, if◌then◌else◌}
use Rattle.source_tokens.specs.declared.tokens.Token.{Token}
use Rattle.source_reader.specs.declared.faults.Fault.{Fault}
use Rattle.source_reader.specs.declared.faults.Wrong.TheVariants as wrong
use Rattle.source_reader.specs.declared.inlines.TheConstants.{OPERATORS}
use Rattle.source_reader.specs.Faults.{◌>>=◌, fault_at}
use Rattle.source_reader.specs.Trees.{ExprTree, TestTree, ValueTree, InlineTree, Constant, Variable, SlotTree, WidthTree, TwoTree, HoldsTree, NotTree, BothTree, EitherTree, NumberTree, TruthTree}
use Rattle.source_reader.specs.Folding.{two_of}
use Rattle.source_reader.specs.Truths.{may_divide}
use Rattle.source_reader.specs.Joining.{number_in}

-- what the parameter of that number stands for
abbrev pub argument_of : List ExprTree → (number : ℕ) → ExprTree
argument_of [] n = Constant (pos 0)
argument_of (e ∷ es) n = if n == 0 then e else argument_of es (n - 1)

-- an expression, with these arguments in place of its variables
abbrev pub put : List ExprTree → ExprTree → ExprTree
put es (Constant z) = Constant z
put es (Variable x) = argument_of es x
put es SlotTree = SlotTree
put es WidthTree = WidthTree
put es (TwoTree o a b) = two_of o (put es a) (put es b)

abbrev pub put_test : List ExprTree → TestTree → TestTree
put_test es (HoldsTree e) = HoldsTree (put es e)
put_test es (NotTree t) = NotTree (put_test es t)
put_test es (BothTree a b) = BothTree (put_test es a) (put_test es b)
put_test es (EitherTree a b) = EitherTree (put_test es a) (put_test es b)

abbrev pub put_value : List ExprTree → ValueTree → ValueTree
put_value es (NumberTree e) = NumberTree (put es e)
put_value es (TruthTree t) = TruthTree (put_test es t)

-- With an operator between so many and so many. From 1,000 on nothing is counted.
abbrev pub one_more_than : ℕ → ℕ → ℕ
one_more_than a b = if nat_lt (a + b) 1000 then a + b + 1 else 1000

-- how many operators there are
abbrev pub operators_in : ExprTree → ℕ
operators_in (TwoTree o a b) = one_more_than (operators_in a) (operators_in b)
operators_in e = 0

abbrev pub test_operators : TestTree → ℕ
test_operators (HoldsTree e) = operators_in e
test_operators (NotTree t) = test_operators t
test_operators (BothTree a b) = one_more_than (test_operators a) (test_operators b)
test_operators (EitherTree a b) = one_more_than (test_operators a) (test_operators b)

abbrev pub value_operators : ValueTree → ℕ
value_operators (NumberTree e) = operators_in e
value_operators (TruthTree t) = test_operators t

abbrev pub if_short : ValueTree → List Token → Result ValueTree Fault
if_short v ts = if nat_lt OPERATORS (value_operators v) then Err (fault_at ts wrong.TooLong) else Ok v

abbrev pub short_number : ExprTree → List Token → Result ExprTree Fault
short_number e ts = if nat_lt OPERATORS (operators_in e) then Err (fault_at ts wrong.TooLong) else Ok e

-- What an inline function is given does not divide, except by a constant: so it is the same whether it is computed once, several times or not at all.
abbrev pub given_in : ValueTree → List Token → Result ExprTree Fault
given_in v ts = do
  e ← number_in v ts
  if may_divide e then Err (fault_at ts wrong.GivenDivision) else short_number e ts

-- The name is the first of the tokens `called`.
abbrev pub inserted : InlineTree → List ExprTree → (called : List Token) → Result ValueTree Fault
inserted f es called = if_short (put_value es f.value) called
