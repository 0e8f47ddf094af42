-- What is inserted for `min`, `max` and `abs`.
use Rattle.std.specs.Prelude.{pos, List, [], ◌∷◌, Result, Ok}
use Rattle.source_language.specs.declared.syntax.Operator.TheVariants as op
use Rattle.source_tokens.specs.declared.tokens.BuiltIn.{BuiltIn}
use Rattle.source_tokens.specs.declared.tokens.BuiltIn.TheVariants.{Min, Max, Abs}
use Rattle.source_tokens.specs.declared.tokens.Token.{Token}
use Rattle.source_reader.specs.declared.built_ins.Taken.{Taken}
use Rattle.source_reader.specs.declared.built_ins.Taken.TheVariants as which
use Rattle.source_reader.specs.declared.faults.Fault.{Fault}
use Rattle.source_reader.specs.Faults.{◌>>=◌}
use Rattle.source_reader.specs.Folding.{two_of}
use Rattle.source_reader.specs.Inlines.{short_number}
use Rattle.source_reader.specs.Marks.{wrong_count}
use Rattle.source_reader.specs.Trees.{ExprTree, Constant}

-- 1 if the first of two numbers is taken, else 0
abbrev pub is_first : Taken → ExprTree → ExprTree → ExprTree
is_first which.Least a b = two_of op.Below a b
is_first which.Greatest a b = two_of op.Below b a

-- The second number, and the difference if the first is taken. It may wrap, and then the sum wraps back.
abbrev pub extreme : Taken → ExprTree → ExprTree → ExprTree
extreme w a b = two_of op.Plus b (two_of op.Times (two_of op.Minus a b) (is_first w a b))

-- -1 for a number below 0, else 0
abbrev pub sign_of : ExprTree → ExprTree
sign_of e = two_of op.ShiftRight e (Constant (pos 63))

-- below 0 all bits the other way round, and 1 more: the number without its sign
abbrev pub size_of : ExprTree → ExprTree
size_of e = two_of op.Minus (two_of op.BitXor e (sign_of e)) (sign_of e)

-- of a number and others; each step is to be short enough
abbrev pub extreme_of : Taken → ExprTree → List ExprTree → (called : List Token) → Result ExprTree Fault
extreme_of w e [] called = Ok e
extreme_of w e (f ∷ fs) called = short_number (extreme w e f) called >>= λ both. extreme_of w both fs called

-- of two numbers or more
abbrev pub extreme_in : Taken → List ExprTree → (called : List Token) → Result ExprTree Fault
extreme_in w [] called = wrong_count called
extreme_in w (e ∷ []) called = wrong_count called
extreme_in w (e ∷ f ∷ fs) called = extreme_of w e (f ∷ fs) called

abbrev pub size_in : List ExprTree → (called : List Token) → Result ExprTree Fault
size_in (e ∷ []) called = short_number (size_of e) called
size_in es called = wrong_count called

-- The name is the first of the tokens `called`.
abbrev pub built_in : BuiltIn → List ExprTree → (called : List Token) → Result ExprTree Fault
built_in Min es called = extreme_in which.Least es called
built_in Max es called = extreme_in which.Greatest es called
built_in Abs es called = size_in es called
