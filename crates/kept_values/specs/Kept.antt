-- A function that keeps a value in one more variable.
use Rattle.std.specs.Prelude.{◌≡◌, ℕ, ◌+◌, Bool, true, false, Some, Box}
use Rattle.std.specs.Global.{Global}
use Rattle.source_language.specs.declared.syntax.Expr.{Expr}
use Rattle.source_language.specs.declared.syntax.Test.{Test}
use Rattle.source_language.specs.declared.syntax.Stmt.{Stmt}
use Rattle.source_language.specs.declared.syntax.Stmt.TheVariants.{Then', Assign, If', Loop', Repeat'}
use Rattle.source_language.specs.declared.syntax.Function.{Function}
use Rattle.values_again.specs.Again.{IsFree, IsUntouched, IsAgain}
use Rattle.kept_values.specs.Given.{HasValue}

-- The second statement is the first one, but for parts before which the variable is given a value. Such a part changes nothing that the value
-- reads, and its expressions may be others, as long as they have the same values wherever the variable has that one.
pub data IsKept (v : ℕ) : Stmt → Stmt → Type 0 where
  Stays : {s : Stmt} → IsKept v s s
  Keeps : {p q : Box (Unit {0}) Global} {e : Expr} {s s' : Stmt} → HasValue e → IsFree v e → IsUntouched v e s → IsAgain v (Some e) s s' → IsKept v s (Then' p (Assign v e) q s')
  InThen : {p q : Box (Unit {0}) Global} {a a' b b' : Stmt} → IsKept v a a' → IsKept v b b' → IsKept v (Then' p a q b) (Then' p a' q b')
  InIf : {c : Test} {p q : Box (Unit {0}) Global} {a a' b b' : Stmt} → IsKept v a a' → IsKept v b b' → IsKept v (If' c p a q b) (If' c p a' q b')
  InLoop : {c : Test} {p q : Box (Unit {0}) Global} {a a' b b' : Stmt} → IsKept v a a' → IsKept v b b' → IsKept v (Loop' c p a q b) (Loop' c p a' q b')
  InRepeat : {c : Test} {p q : Box (Unit {0}) Global} {a a' b b' : Stmt} → IsKept v a a' → IsKept v b b' → IsKept v (Repeat' c p a q b) (Repeat' c p a' q b')

-- The second function has one more variable, in which it keeps a value.
pub record KeepsValue (f f' : Function) : Type 0 where
  pub variables : f'.variables ≡ f.variables + 1
  pub body : IsKept f.variables f.body f'.body

-- the same if a value is kept at all
abbrev pub KeepsIf : Bool → Function → Function → Type 0
KeepsIf true f f' = KeepsValue f f'
KeepsIf false f f' = f' ≡ f
