-- Which functions keep to the registers below a number.
use Rattle.std.specs.Prelude.{ℕ, ◌<◌, Option, Some, None}
use Rattle.job_compiler.specs.declared.registers.TheConstants.{VIRTUAL_REGISTERS}
use Rattle.source_language.specs.declared.syntax.Expr.{Expr}
use Rattle.source_language.specs.declared.syntax.Expr.TheVariants.{Number, Variable, Slot, Width, Two'}
use Rattle.source_language.specs.declared.syntax.Test.{Test}
use Rattle.source_language.specs.declared.syntax.Test.TheVariants.{Holds, Not', Both', Either'}
use Rattle.source_language.specs.declared.syntax.Maker.{Maker}
use Rattle.source_language.specs.declared.syntax.Maker.TheVariants.{Spawn, Post, Isolate}
use Rattle.source_language.specs.declared.syntax.Stmt.{Stmt}
use Rattle.source_language.specs.declared.syntax.Stmt.TheVariants.{Skip, Then', Assign, If', Loop', Repeat', Break, Continue, Return, Make, Wait, Cancel, Read, Store}
use Rattle.source_language.specs.declared.syntax.Function.{Function}
use Rattle.job_compiler.specs.Code.{is_right_first, left_free, right_free, compared, register_for}

-- an operand, and what its code writes
abbrev pub IsOperandLow : (most : ℕ) → Expr → (free : ℕ) → Type 0
IsOperandLow m (Number z) t = t < m
IsOperandLow m (Variable x) t = x < m
IsOperandLow m Slot t = t < m
IsOperandLow m Width t = t < m
IsOperandLow m (Two' op p a q b) t = let s = is_right_first a b in IsOperandLow m a (left_free s b t) × IsOperandLow m b (right_free s a t) × (t < m)

abbrev pub AreBothLow : (most : ℕ) → (left right : Expr) → (free : ℕ) → Type 0
AreBothLow m a b t = let s = is_right_first a b in IsOperandLow m a (left_free s b t) × IsOperandLow m b (right_free s a t)

-- a value that goes to a variable that is there
abbrev pub IsValueLow : (most : ℕ) → Expr → (free : ℕ) → Type 0
IsValueLow m (Number z) t = Unit {0}
IsValueLow m (Variable x) t = x < m
IsValueLow m Slot t = Unit {0}
IsValueLow m Width t = Unit {0}
IsValueLow m (Two' op p a q b) t = AreBothLow m a b t

-- an operand, or a value that goes to a variable
abbrev pub IsWantedLow : (most : ℕ) → Expr → (into : Option ℕ) → (free : ℕ) → Type 0
IsWantedLow m e None t = IsOperandLow m e t
IsWantedLow m e (Some d) t = IsValueLow m e t

-- what a condition looks at
abbrev pub IsHeldLow : (most : ℕ) → Option Expr → Expr → (free : ℕ) → Type 0
IsHeldLow m (Some a) e t = IsOperandLow m a t
IsHeldLow m None e t = IsOperandLow m e t

abbrev pub IsTestLow : (most : ℕ) → Test → (free : ℕ) → Type 0
IsTestLow m (Holds e) t = IsHeldLow m (compared e) e t
IsTestLow m (Not' p c) t = IsTestLow m c t
IsTestLow m (Both' p a q b) t = IsTestLow m a t × IsTestLow m b t
IsTestLow m (Either' p a q b) t = IsTestLow m a t × IsTestLow m b t

abbrev pub IsMakerLow : (most : ℕ) → Maker → Type 0
IsMakerLow m (Spawn g) = Unit {0}
IsMakerLow m Post = Unit {0}
IsMakerLow m (Isolate d) = d < m

abbrev pub IsStmtLow : (most : ℕ) → Stmt → (free : ℕ) → Type 0
IsStmtLow m Skip t = Unit {0}
IsStmtLow m (Then' p a q b) t = IsStmtLow m a t × IsStmtLow m b t
IsStmtLow m (Assign x e) t = (x < m) × IsValueLow m e t
IsStmtLow m (If' c p a q b) t = IsTestLow m c t × IsStmtLow m a t × IsStmtLow m b t
IsStmtLow m (Loop' c p b q s) t = IsTestLow m c t × IsStmtLow m b t × IsStmtLow m s t
IsStmtLow m (Repeat' c p b q s) t = IsTestLow m c t × IsStmtLow m b t × IsStmtLow m s t
IsStmtLow m (Break k) t = Unit {0}
IsStmtLow m (Continue k) t = Unit {0}
IsStmtLow m (Return e) t = IsOperandLow m e t
IsStmtLow m (Make k p a b) t = IsMakerLow m k × AreBothLow m a b t
IsStmtLow m (Wait d e g) t = (register_for d t < m) × (register_for e t < m)
IsStmtLow m (Cancel g) t = Unit {0}
IsStmtLow m (Read d q) t = d < m
IsStmtLow m (Store k e) t = IsOperandLow m e t

-- Its variables and the values on the way fit the virtual registers.
abbrev pub FitsVirtualRegisters : Function → Type 0
FitsVirtualRegisters f = IsStmtLow VIRTUAL_REGISTERS f.body f.variables
