-- A worked example: the sum of the numbers below the first argument.
use Rattle.std.specs.Prelude.{◌≡◌, pos, [], ◌∷◌, Some, Box}
use Rattle.std.specs.Global.{Global}
use Rattle.job_language.specs.Program.{IsValidProc}
use Rattle.source_language.specs.declared.syntax.Operator.TheVariants.{Plus, Below}
use Rattle.source_language.specs.declared.syntax.Expr.TheVariants.{Number, Variable, Two'}
use Rattle.source_language.specs.declared.syntax.Test.TheVariants.{Holds}
use Rattle.source_language.specs.declared.syntax.Stmt.TheVariants.{Then', Assign, Loop', Return}
use Rattle.source_language.specs.declared.syntax.Function.{Function}
use Rattle.source_language.specs.Meaning.{Returns, start}
use Rattle.job_compiler.specs.Code.{function_code}
use Rattle.job_compiler.specs.Compiled.{IsFunction}
use Rattle.job_compiler.specs.Traces.{Did, source_events}

-- `while i < n { total = total + i } step { i = i + 1 } return total`
abbrev pub summed : Box (Unit {0}) Global → Function
summed g =
    record {
      variables = 3;
      body = Then' g (Loop' (Holds (Two' Below g (Variable 1) g (Variable 0))) g (Assign 2 (Two' Plus g (Variable 2) g (Variable 1))) g (Assign 1 (Two' Plus g (Variable 1) g (Number (pos 1))))) g
          (Return (Variable 2));
    }

abbrev pub SummedIsFunction : Type 0
SummedIsFunction = (g : Box (Unit {0}) Global) → IsFunction (summed g)

abbrev pub SummedIsValid : Type 0
SummedIsValid = (g : Box (Unit {0}) Global) → IsValidProc (function_code (summed g))

unfoldable pub SummedGives10 : Type 0
SummedGives10 = (g : Box (Unit {0}) Global) → source_events 0 0 100 (start (summed g) (pos 5) (pos 0)) [] ≡ Some (Did (Returns (pos 10)) ∷ [])
