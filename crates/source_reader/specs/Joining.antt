-- What operators make of values.
use Rattle.std.specs.Prelude.{ℕ, pos, negsuc, true, List, Result, Ok, Err, if◌then◌else◌}
use Rattle.source_language.specs.declared.syntax.Operator.{Operator}
use Rattle.source_language.specs.declared.syntax.Operator.TheVariants as op
use Rattle.source_tokens.specs.declared.tokens.Sign.{Sign}
use Rattle.source_tokens.specs.declared.tokens.Sign.TheVariants.{Or, And, Equal, Unequal, Below, AtMost, Above, AtLeast, Plus, Minus, Times}
use Rattle.source_tokens.specs.declared.tokens.Sign.TheVariants.{Over, Remainder, BitAnd, BitOr, BitXor, ShiftLeft, ShiftRight}
use Rattle.source_tokens.specs.declared.tokens.Token.{Token}
use Rattle.source_reader.specs.declared.faults.Fault.{Fault}
use Rattle.source_reader.specs.declared.faults.Wrong.TheVariants as wrong
use Rattle.source_reader.specs.Faults.{◌>>=◌, fault_at}
use Rattle.source_reader.specs.Trees.{ExprTree, TestTree, ValueTree, Constant, HoldsTree, BothTree, EitherTree, NumberTree, TruthTree}
use Rattle.source_reader.specs.Folding.{two_of}
use Rattle.source_reader.specs.Truths.{may_skip, bit_of}

-- how tight an operator binds
abbrev pub level_of : Sign → ℕ
level_of Or = 0
level_of And = 1
level_of Equal = 2
level_of Unequal = 2
level_of Below = 2
level_of AtMost = 2
level_of Above = 2
level_of AtLeast = 2
level_of BitOr = 3
level_of BitXor = 4
level_of BitAnd = 5
level_of ShiftLeft = 6
level_of ShiftRight = 6
level_of Plus = 7
level_of Minus = 7
level_of Times = 8
level_of Over = 8
level_of Remainder = 8

-- A condition is 1 or 0. What it skips is then computed, too, so that must not divide by 0.
abbrev pub number_in : ValueTree → List Token → Result ExprTree Fault
number_in (NumberTree e) ts = Ok e
number_in (TruthTree t) ts = if may_skip t then Err (fault_at ts wrong.SkippedDivision) else Ok (bit_of true t)

-- A number holds if it is not 0.
abbrev pub test_in : ValueTree → TestTree
test_in (NumberTree e) = HoldsTree e
test_in (TruthTree t) = t

abbrev pub operation : Operator → ValueTree → ValueTree → List Token → Result ExprTree Fault
operation o a b ts = do
  x ← number_in a ts
  y ← number_in b ts
  Ok (two_of o x y)

abbrev pub minus : ValueTree → List Token → Result ValueTree Fault
minus a ts = do
  x ← number_in a ts
  Ok (NumberTree (two_of op.Minus (Constant (pos 0)) x))

-- each bit the other way round
abbrev pub complement : ValueTree → List Token → Result ValueTree Fault
complement a ts = do
  x ← number_in a ts
  Ok (NumberTree (two_of op.BitXor x (Constant (negsuc 0))))

abbrev pub a_number : Result ExprTree Fault → Result ValueTree Fault
a_number r = r >>= λ e. Ok (NumberTree e)

-- whether there is a difference
abbrev pub a_difference : Result ExprTree Fault → Result ValueTree Fault
a_difference r = r >>= λ e. Ok (TruthTree (HoldsTree e))

-- The operator is at the first of the tokens. Only whether a difference is 0 is asked, so it may wrap.
abbrev pub joined : Sign → ValueTree → ValueTree → List Token → Result ValueTree Fault
joined Or a b ts = Ok (TruthTree (EitherTree (test_in a) (test_in b)))
joined And a b ts = Ok (TruthTree (BothTree (test_in a) (test_in b)))
joined Equal a b ts = a_number (operation op.Equal a b ts)
joined Unequal a b ts = a_difference (operation op.Minus a b ts)
joined Below a b ts = a_number (operation op.Below a b ts)
joined AtMost a b ts = a_number (operation op.AtMost a b ts)
joined Above a b ts = a_number (operation op.Below b a ts)
joined AtLeast a b ts = a_number (operation op.AtMost b a ts)
joined BitOr a b ts = a_number (operation op.BitOr a b ts)
joined BitXor a b ts = a_number (operation op.BitXor a b ts)
joined BitAnd a b ts = a_number (operation op.BitAnd a b ts)
joined ShiftLeft a b ts = a_number (operation op.ShiftLeft a b ts)
joined ShiftRight a b ts = a_number (operation op.ShiftRight a b ts)
joined Plus a b ts = a_number (operation op.Plus a b ts)
joined Minus a b ts = a_number (operation op.Minus a b ts)
joined Times a b ts = a_number (operation op.Times a b ts)
joined Over a b ts = a_number (operation op.Over a b ts)
joined Remainder a b ts = a_number (operation op.Remainder a b ts)
