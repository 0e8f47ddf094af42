-- Operations: of two numbers that are written, one is its result.
use Rattle.std.specs.Prelude.{ℤ, Option, Some, None}
use Rattle.source_language.specs.declared.syntax.Operator.{Operator}
use Rattle.source_language.specs.Meaning.{result_of}
use Rattle.source_reader.specs.Trees.{ExprTree, Constant, TwoTree}

abbrev pub constant_or : Option ℤ → ExprTree → ExprTree
constant_or (Some z) e = Constant z
constant_or None e = e

abbrev pub behind_constant : Operator → ℤ → ExprTree → ExprTree
behind_constant o x (Constant y) = constant_or (result_of o x y) (TwoTree o (Constant x) (Constant y))
behind_constant o x b = TwoTree o (Constant x) b

-- A division by 0 has no result, and is left to be done.
abbrev pub two_of : Operator → ExprTree → ExprTree → ExprTree
two_of o (Constant x) b = behind_constant o x b
two_of o a b = TwoTree o a b
