-- How the parameters of a function share the two numbers that a task gets.
use Rattle.std.specs.Prelude.{ℕ, ◌+◌, ◌-◌, ◌==◌, ◌&&◌, ◌||◌, nat_lt, pos, Bool, false, List, [], ◌∷◌, if◌then◌else◌}
use Rattle.source_language.specs.declared.syntax.Operator.TheVariants as op
use Rattle.source_reader.specs.declared.layouts.Taken.{Taken}
use Rattle.source_reader.specs.Folding.{two_of}
use Rattle.source_reader.specs.Names.{number_after}
use Rattle.source_reader.specs.Trees.{ExprTree, StmtTree, Constant, Variable, TwoTree, SkipTree, ThenTree, AssignTree}

-- Whether a number of which so many bits are taken has room for a parameter of that width: without a width it needs one of its own. Those with a width share 63 bits.
abbrev pub has_room : (taken bits : ℕ) → Bool
has_room n b = n == 0 || (nat_lt 0 b && nat_lt (n + b) 64)

-- what a parameter takes
abbrev pub bits_taken : (bits : ℕ) → ℕ
bits_taken b = if b == 0 then 64 else b

abbrev pub nothing_taken : Taken
nothing_taken = record { first = 0; second = 0 }

-- A parameter goes to the first number that has room, or to none.
abbrev pub with_one : Taken → (bits : ℕ) → Taken
with_one t b =
    if has_room t.first b then record { first = t.first + bits_taken b; second = t.second }
    else (if has_room t.second b then record { first = t.first; second = t.second + bits_taken b } else t)

-- behind parameters of these widths
abbrev pub with_all : Taken → List ℕ → Taken
with_all t [] = t
with_all t (b ∷ bs) = with_all (with_one t b) bs

-- a number with so many bits behind it
abbrev pub shifted : ExprTree → (bits : ℕ) → ExprTree
shifted e b = two_of op.ShiftLeft e (Constant (pos b))

-- What is packed behind so many bits: those before are above it. What does not fit changes them.
abbrev pub packed : (taken bits : ℕ) → (before : ExprTree) → ExprTree → ExprTree
packed n b before e = if n == 0 then e else two_of op.Plus (shifted before b) e

-- the two numbers, with one more value, of a parameter of that width
abbrev pub packed_with : Taken → (bits : ℕ) → (first second e : ExprTree) → ExprTree × ExprTree
packed_with t b first second e = if has_room t.first b then (packed t.first b first e, second) else (first, packed t.second b second e)

-- so many ones, as a number
abbrev pub ones : (bits : ℕ) → ExprTree
ones b = two_of op.Minus (shifted (Constant (pos 1)) b) (Constant (pos 1))

-- a variable without so many of its lowest bits
abbrev pub without_low : (variable low : ℕ) → ExprTree
without_low x n = if n == 0 then Variable x else TwoTree op.ShiftRight (Variable x) (Constant (pos n))

-- What stands in a variable below so many bits that are taken, and above so many others. The highest parameter has all that is left.
abbrev pub part_of : (variable above low bits : ℕ) → ExprTree
part_of x above low b = if above == 0 then without_low x low else TwoTree op.BitAnd (without_low x low) (ones b)

-- the value of a parameter behind those that took some bits, where all take so many
abbrev pub unpacked : (all before : Taken) → (bits : ℕ) → ExprTree
unpacked all t b =
    if has_room t.first b then part_of 0 t.first (all.first - t.first - bits_taken b) b
    else part_of 1 t.second (all.second - t.second - bits_taken b) b

-- Each parameter is given to a variable of its own, from that one on.
abbrev pub unpacking : (all before : Taken) → (variable : ℕ) → List ℕ → StmtTree
unpacking all t v [] = SkipTree
unpacking all t v (b ∷ bs) = ThenTree (AssignTree v (unpacked all t b)) (unpacking all (with_one t b) (number_after v) bs)

abbrev pub has_width : List ℕ → Bool
has_width [] = false
has_width (b ∷ bs) = nat_lt 0 b || has_width bs

-- The variable of the first parameter. Without widths the two numbers are the parameters.
abbrev pub first_variable : List ℕ → ℕ
first_variable bs = if has_width bs then 2 else 0

-- the body of a function with parameters of these widths
abbrev pub with_unpacking : List ℕ → StmtTree → StmtTree
with_unpacking bs s = if has_width bs then ThenTree (unpacking (with_all nothing_taken bs) nothing_taken 2 bs) s else s
