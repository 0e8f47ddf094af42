-- Which functions have all their variables within a number of variables, and their numbers within 64 bits.
use Rattle.std.specs.Prelude.{ℕ, ◌<◌, Option, Some, None, FitsSigned}
use Rattle.std.specs.Int.{w64}
use Rattle.source_language.specs.declared.syntax.Expr.{Expr}
use Rattle.source_language.specs.declared.syntax.Expr.TheVariants.{Number, Variable, Slot, Width, Two'}
use Rattle.source_language.specs.declared.syntax.Test.{Test}
use Rattle.source_language.specs.declared.syntax.Test.TheVariants.{Holds, Not', Both', Either'}
use Rattle.source_language.specs.declared.syntax.Maker.{Maker}
use Rattle.source_language.specs.declared.syntax.Maker.TheVariants.{Isolate}
use Rattle.source_language.specs.declared.syntax.Stmt.{Stmt}
use Rattle.source_language.specs.declared.syntax.Stmt.TheVariants.{Skip, Then', Assign, If', Loop', Repeat', Break, Continue, Return, Make, Wait, Cancel, Read, Store}

abbrev pub IsWithin : ℕ → Expr → Type 0
IsWithin n (Number z) = FitsSigned w64 z
IsWithin n (Variable x) = x < n
IsWithin n Slot = Unit {0}
IsWithin n Width = Unit {0}
IsWithin n (Two' op p a q b) = IsWithin n a × IsWithin n b

abbrev pub IsTestWithin : ℕ → Test → Type 0
IsTestWithin n (Holds e) = IsWithin n e
IsTestWithin n (Not' p t) = IsTestWithin n t
IsTestWithin n (Both' p a q b) = IsTestWithin n a × IsTestWithin n b
IsTestWithin n (Either' p a q b) = IsTestWithin n a × IsTestWithin n b

abbrev pub IsMakerWithin : ℕ → Maker → Type 0
IsMakerWithin n (Isolate d) = d < n
IsMakerWithin n m = Unit {0}

abbrev pub IsOneWithin : ℕ → Option ℕ → Type 0
IsOneWithin n None = Unit {0}
IsOneWithin n (Some d) = d < n

abbrev pub IsStmtWithin : ℕ → Stmt → Type 0
IsStmtWithin n Skip = Unit {0}
IsStmtWithin n (Then' p a q b) = IsStmtWithin n a × IsStmtWithin n b
IsStmtWithin n (Assign x e) = (x < n) × IsWithin n e
IsStmtWithin n (If' c p a q b) = IsTestWithin n c × IsStmtWithin n a × IsStmtWithin n b
IsStmtWithin n (Loop' c p b q s) = IsTestWithin n c × IsStmtWithin n b × IsStmtWithin n s
IsStmtWithin n (Repeat' c p b q s) = IsTestWithin n c × IsStmtWithin n b × IsStmtWithin n s
IsStmtWithin n (Break k) = Unit {0}
IsStmtWithin n (Continue k) = Unit {0}
IsStmtWithin n (Return e) = IsWithin n e
IsStmtWithin n (Make m p a b) = IsMakerWithin n m × IsWithin n a × IsWithin n b
IsStmtWithin n (Wait d e g) = IsOneWithin n d × IsOneWithin n e
IsStmtWithin n (Cancel g) = Unit {0}
IsStmtWithin n (Read d q) = d < n
IsStmtWithin n (Store k e) = IsWithin n e
