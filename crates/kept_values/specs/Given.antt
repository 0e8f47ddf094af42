-- A function that gives values to a variable which nobody reads.
use Rattle.std.specs.Prelude.{◌≡◌, ◌≢◌, ℕ, ℤ, pos, List, Some, Box}
use Rattle.std.specs.Global.{Global}
use Rattle.source_language.specs.declared.syntax.Expr.{Expr}
use Rattle.source_language.specs.declared.syntax.Expr.TheVariants.{Number}
use Rattle.source_language.specs.declared.syntax.Operator.{Operator}
use Rattle.source_language.specs.declared.syntax.Test.{Test}
use Rattle.source_language.specs.declared.syntax.Stmt.{Stmt}
use Rattle.source_language.specs.declared.syntax.Stmt.TheVariants.{Then', Assign, If', Loop', Repeat'}
use Rattle.source_language.specs.Meaning.{result_of, value_of}

-- The expression has a value, whatever the variables are: it divides by nothing that might be 0.
abbrev pub HasValue : Expr → Type 0
HasValue e = (slot width : ℕ) (vars : List ℤ) → (z : ℤ) × (value_of e slot width vars ≡ Some z)

-- The operator has a result whatever the left side is, and whatever the value of this right side.
abbrev pub HasResult : Operator → Expr → Type 0
HasResult op e = (slot width : ℕ) (vars : List ℤ) (x y : ℤ) → value_of e slot width vars ≡ Some y → (z : ℤ) × (result_of op x y ≡ Some z)

abbrev pub IsDivisor : Expr → Type 0
IsDivisor (Number n) = n ≢ pos 0
IsDivisor e = ⊥

-- The second statement is the first one, but for values that it gives to the variable before some statements.
pub data IsGiven (v : ℕ) : Stmt → Stmt → Type 0 where
  Same : {s : Stmt} → IsGiven v s s
  Gives : {p q : Box (Unit {0}) Global} {e : Expr} {s s' : Stmt} → HasValue e → IsGiven v s s' → IsGiven v s (Then' p (Assign v e) q s')
  Thens : {p q : Box (Unit {0}) Global} {a a' b b' : Stmt} → IsGiven v a a' → IsGiven v b b' → IsGiven v (Then' p a q b) (Then' p a' q b')
  Ifs : {c : Test} {p q : Box (Unit {0}) Global} {a a' b b' : Stmt} → IsGiven v a a' → IsGiven v b b' → IsGiven v (If' c p a q b) (If' c p a' q b')
  Loops : {c : Test} {p q : Box (Unit {0}) Global} {a a' b b' : Stmt} → IsGiven v a a' → IsGiven v b b' → IsGiven v (Loop' c p a q b) (Loop' c p a' q b')
  Repeats : {c : Test} {p q : Box (Unit {0}) Global} {a a' b b' : Stmt} → IsGiven v a a' → IsGiven v b b' → IsGiven v (Repeat' c p a q b) (Repeat' c p a' q b')
