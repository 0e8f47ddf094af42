-- A function that computes the value of a variable again where it reads the variable.
use Rattle.std.specs.Prelude.{◌≡◌, ◌≢◌, ◌<◌, ℕ, ℤ, pos, Bool, true, false, List, Option, Some, None, Box, slice_index_or}
use Rattle.std.specs.Global.{Global}
use Rattle.source_language.specs.declared.syntax.Expr.{Expr}
use Rattle.source_language.specs.declared.syntax.Expr.TheVariants.{Number, Variable, Slot, Width, Two'}
use Rattle.source_language.specs.declared.syntax.Test.{Test}
use Rattle.source_language.specs.declared.syntax.Maker.{Maker}
use Rattle.source_language.specs.declared.syntax.Maker.TheVariants.{Spawn, Post, Isolate}
use Rattle.source_language.specs.declared.syntax.Question.{Question}
use Rattle.source_language.specs.declared.syntax.Stmt.{Stmt}
use Rattle.source_language.specs.declared.syntax.Stmt.TheVariants.{Skip, Then', Assign, If', Loop', Repeat', Break, Continue, Return, Make, Wait, Cancel, Read, Store}
use Rattle.source_language.specs.declared.syntax.Function.{Function}
use Rattle.source_language.specs.Meaning.{value_of, test_of}

-- The expression does not read the variable.
abbrev pub IsFree : (x : ℕ) → Expr → Type 0
IsFree x (Number z) = Unit {0}
IsFree x (Variable y) = x ≢ y
IsFree x Slot = Unit {0}
IsFree x Width = Unit {0}
IsFree x (Two' op p a q b) = IsFree x a × IsFree x b

-- What is given to the other variable changes neither this one nor its value.
abbrev pub IsKept : (v : ℕ) → Expr → (x : ℕ) → Type 0
IsKept v e x = (x ≢ v) × IsFree x e

abbrev pub IsOneKept : (v : ℕ) → Expr → Option ℕ → Type 0
IsOneKept v e None = Unit {0}
IsOneKept v e (Some x) = IsKept v e x

abbrev pub IsMakerKept : (v : ℕ) → Expr → Maker → Type 0
IsMakerKept v e (Spawn g) = Unit {0}
IsMakerKept v e Post = Unit {0}
IsMakerKept v e (Isolate x) = IsKept v e x

-- The statement changes neither the variable nor its value.
abbrev pub IsUntouched : (v : ℕ) → Expr → Stmt → Type 0
IsUntouched v e Skip = Unit {0}
IsUntouched v e (Then' p a q b) = IsUntouched v e a × IsUntouched v e b
IsUntouched v e (Assign x d) = IsKept v e x
IsUntouched v e (If' c p a q b) = IsUntouched v e a × IsUntouched v e b
IsUntouched v e (Loop' c p b q s) = IsUntouched v e b × IsUntouched v e s
IsUntouched v e (Repeat' c p b q s) = IsUntouched v e b × IsUntouched v e s
IsUntouched v e (Break k) = Unit {0}
IsUntouched v e (Continue k) = Unit {0}
IsUntouched v e (Return d) = Unit {0}
IsUntouched v e (Make m p a b) = IsMakerKept v e m
IsUntouched v e (Wait x y g) = IsOneKept v e x × IsOneKept v e y
IsUntouched v e (Cancel g) = Unit {0}
IsUntouched v e (Read x q) = IsKept v e x
IsUntouched v e (Store k d) = Unit {0}

-- the same if there is a value
abbrev pub IsUntouchedBy : (v : ℕ) → Option Expr → Stmt → Type 0
IsUntouchedBy v None s = Unit {0}
IsUntouchedBy v (Some e) s = IsUntouched v e s

-- The variable has this value, if there is one.
abbrev pub HasIt : (v : ℕ) → Option Expr → (slot width : ℕ) → (vars : List ℤ) → Type 0
HasIt v None slot width vars = Unit {0}
HasIt v (Some e) slot width vars = value_of e slot width vars ≡ Some (slice_index_or vars v (pos 0))

-- Wherever the variable has this value, the second expression has the value of the first one.
abbrev pub IsAlike : (v : ℕ) → Option Expr → Expr → Expr → Type 0
IsAlike v m d d' = (slot width : ℕ) (vars : List ℤ) → HasIt v m slot width vars → value_of d' slot width vars ≡ value_of d slot width vars

abbrev pub IsTestAlike : (v : ℕ) → Option Expr → Test → Test → Type 0
IsTestAlike v m c c' = (slot width : ℕ) (vars : List ℤ) → HasIt v m slot width vars → test_of c' slot width vars ≡ test_of c slot width vars

-- The second statement is the first one, but for expressions that are alike where the variable has this value. Behind a place that gives the
-- variable a value, and in what is left of that block, they need to be alike only where it has that one, if what is left does not touch it.
pub data IsAgain (v : ℕ) : Option Expr → Stmt → Stmt → Type 0 where
  Skips : {m : Option Expr} → IsAgain v m Skip Skip
  Thens : {m : Option Expr} {p q : Box (Unit {0}) Global} {a a' b b' : Stmt} → IsAgain v m a a' → IsAgain v m b b' → IsAgain v m (Then' p a q b) (Then' p a' q b')
  Sets : {p q : Box (Unit {0}) Global} {e : Expr} {b b' : Stmt} → IsFree v e → IsUntouched v e b → IsAgain v (Some e) b b' → IsAgain v None (Then' p (Assign v e) q b) (Then' p (Assign v e) q b')
  Assigns : {m : Option Expr} {x : ℕ} {d d' : Expr} → IsAlike v m d d' → IsAgain v m (Assign x d) (Assign x d')
  Ifs : {m : Option Expr} {c c' : Test} {p q : Box (Unit {0}) Global} {a a' b b' : Stmt} → IsTestAlike v m c c' → IsAgain v m a a' → IsAgain v m b b'
      → IsAgain v m (If' c p a q b) (If' c' p a' q b')
  Loops : {m : Option Expr} {c c' : Test} {p q : Box (Unit {0}) Global} {a a' b b' : Stmt} → IsTestAlike v m c c' → IsAgain v m a a' → IsAgain v m b b'
      → IsAgain v m (Loop' c p a q b) (Loop' c' p a' q b')
  Repeats : {m : Option Expr} {c c' : Test} {p q : Box (Unit {0}) Global} {a a' b b' : Stmt} → IsTestAlike v m c c' → IsAgain v m a a' → IsAgain v m b b'
      → IsAgain v m (Repeat' c p a q b) (Repeat' c' p a' q b')
  Breaks : {m : Option Expr} {k : ℕ} → IsAgain v m (Break k) (Break k)
  Continues : {m : Option Expr} {k : ℕ} → IsAgain v m (Continue k) (Continue k)
  Returns : {m : Option Expr} {d d' : Expr} → IsAlike v m d d' → IsAgain v m (Return d) (Return d')
  Makes : {m : Option Expr} {k : Maker} {n : ℕ} {a a' b b' : Expr} → IsAlike v m a a' → IsAlike v m b b' → IsAgain v m (Make k n a b) (Make k n a' b')
  Waits : {m : Option Expr} {x y : Option ℕ} {g : ℕ} → IsAgain v m (Wait x y g) (Wait x y g)
  Cancels : {m : Option Expr} {g : ℕ} → IsAgain v m (Cancel g) (Cancel g)
  Asks : {m : Option Expr} {x : ℕ} {q : Question} → IsAgain v m (Read x q) (Read x q)
  Stores : {m : Option Expr} {k : ℕ} {d d' : Expr} → IsAlike v m d d' → IsAgain v m (Store k d) (Store k d')

-- The second statement may compute the value again that the first one gives the variable.
abbrev pub IsBehind : (v : ℕ) → (again : Bool) → (first s s' : Stmt) → Type 0
IsBehind v false first s s' = s' ≡ s
IsBehind v true first s s' = (e : Expr) × (first ≡ Assign v e) × IsFree v e × IsUntouched v e s × IsAgain v (Some e) s s'

-- The second function computes the value of the variable again in some places.
pub record ReadsAgain (v : ℕ) (f f' : Function) : Type 0 where
  pub low : v < f.variables
  pub variables : f'.variables ≡ f.variables
  pub body : IsAgain v None f.body f'.body
