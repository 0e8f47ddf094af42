-- Worked examples of what the source language says.
use Rattle.std.specs.Prelude.{◌≡◌, ℕ, ℤ, pos, negsuc, true, false, List, ◌∷◌, Some, None, Box}
use Rattle.std.specs.Global.{Global}
use Rattle.source_language.specs.declared.syntax.Operator.TheVariants.{Over, Remainder, BitAnd, BitOr, BitXor, ShiftLeft, ShiftRight, AtMost, Equal}
use Rattle.source_language.specs.declared.syntax.Expr.TheVariants.{Number, Two'}
use Rattle.source_language.specs.declared.syntax.Test.{Test}
use Rattle.source_language.specs.declared.syntax.Test.TheVariants.{Holds, Both', Either'}
use Rattle.source_language.specs.declared.syntax.Stmt.{Stmt}
use Rattle.source_language.specs.Meaning.{result_of, test_of, Todo, Do, Next, past_loop, next_turn}

-- -7 / 2 is -3, -7 % 2 is -1, 7 % -2 is 1, and 7 % 0 is nothing
abbrev pub RoundsTowardZero : Type 0
RoundsTowardZero =
    (result_of Over (negsuc 6) (pos 2) ≡ Some (negsuc 2))
    × (result_of Remainder (negsuc 6) (pos 2) ≡ Some (negsuc 0))
    × (result_of Remainder (pos 7) (negsuc 1) ≡ Some (pos 1))
    × (result_of Remainder (pos 7) (pos 0) ≡ None)

-- -8 & 13 is 8, -8 | 13 is -3, and -8 ^ 13 is -11
abbrev pub WorksOnBits : Type 0
WorksOnBits =
    (result_of BitAnd (negsuc 7) (pos 13) ≡ Some (pos 8))
    × (result_of BitOr (negsuc 7) (pos 13) ≡ Some (negsuc 2))
    × (result_of BitXor (negsuc 7) (pos 13) ≡ Some (negsuc 10))

-- -7 >> 1 is -4, 5 << 62 is 2^62, 1 << 63 is -2^63, 3 << 64 is 3, and 6 >> -63 is 3
abbrev pub Shifts : Type 0
Shifts =
    (result_of ShiftRight (negsuc 6) (pos 1) ≡ Some (negsuc 3))
    × (result_of ShiftLeft (pos 5) (pos 62) ≡ Some (pos 4611686018427387904))
    × (result_of ShiftLeft (pos 1) (pos 63) ≡ Some (negsuc 9223372036854775807))
    × (result_of ShiftLeft (pos 3) (pos 64) ≡ Some (pos 3))
    × (result_of ShiftRight (pos 6) (negsuc 62) ≡ Some (pos 3))

-- -2 <= -2, and not -1 <= -2; 3 == 3, and not 3 == -3
abbrev pub Compares : Type 0
Compares =
    (result_of AtMost (negsuc 1) (negsuc 1) ≡ Some (pos 1))
    × (result_of AtMost (negsuc 0) (negsuc 1) ≡ Some (pos 0))
    × (result_of Equal (pos 3) (pos 3) ≡ Some (pos 1))
    × (result_of Equal (pos 3) (negsuc 2) ≡ Some (pos 0))

-- `0 && 1 / 0` is false, and `1 || 1 / 0` is true
abbrev pub StopsEarly : Type 0
StopsEarly =
    (g : Box (Unit {0}) Global) (slot width : ℕ) (vars : List ℤ)
    → (test_of (Both' g (Holds (Number (pos 0))) g (Holds (Two' Over g (Number (pos 1)) g (Number (pos 0))))) slot width vars ≡ Some false)
    × (test_of (Either' g (Holds (Number (pos 1))) g (Holds (Two' Over g (Number (pos 1)) g (Number (pos 0))))) slot width vars ≡ Some true)

-- in the inner one of two loops: out of it, out of both, and to the next turn of the outer one
abbrev pub LeavesLoops : Type 0
LeavesLoops =
    (c d : Test) (a b s t u : Stmt) (rest : List Todo)
    → (past_loop (Do a ∷ Next c b s ∷ Do u ∷ Next d b t ∷ rest) 0 ≡ Do u ∷ Next d b t ∷ rest)
    × (past_loop (Do a ∷ Next c b s ∷ Do u ∷ Next d b t ∷ rest) 1 ≡ rest)
    × (next_turn (Do a ∷ Next c b s ∷ Do u ∷ Next d b t ∷ rest) 1 ≡ Next d b t ∷ rest)
