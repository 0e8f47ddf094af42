-- What the function of a parallel loop does: it halves its range among two tasks, or takes the numbers of a short one by itself.
use Rattle.std.specs.Prelude.{ℕ, ◌==◌, ℤ, ◌*ℤ◌, pos, negsuc, Bool, true, false, Some, None, if◌then◌else◌}
use Rattle.std.specs.Int.{saturate_signed, w64}
use Rattle.std.specs.Ordering.{int_eq}
use Rattle.source_language.specs.declared.syntax.Maker.TheVariants as maker
use Rattle.source_language.specs.declared.syntax.Operator.TheVariants as op
use Rattle.source_language.specs.Meaning.{is_nought}
use Rattle.source_tokens.specs.declared.tokens.Gathers.{Gathers}
use Rattle.source_tokens.specs.declared.tokens.Gathers.TheVariants as gathers
use Rattle.source_reader.specs.declared.halving.TheConstants.{LOW, HIGH, TOTAL, OTHER, LOWER, UPPER}
use Rattle.source_reader.specs.Counting.{to_end, turns}
use Rattle.source_reader.specs.Trees.{ExprTree, TestTree, StmtTree, Constant, Variable, TwoTree, HoldsTree, SkipTree, ThenTree, AssignTree, IfTree, ContinueTree, ReturnTree, MakeTree, WaitTree}

-- what comes of no numbers
abbrev pub neutral : Gathers → ℤ
neutral gathers.Sum = pos 0
neutral gathers.Least = pos 9223372036854775807
neutral gathers.Greatest = negsuc 9223372036854775807

abbrev pub is_0 : ExprTree → Bool
is_0 (Constant z) = is_nought z
is_0 e = false

-- one number as the total, if another is less than a third
abbrev pub taken_if : (less than from : ExprTree) → StmtTree
taken_if a b e = IfTree (HoldsTree (TwoTree op.Below a b)) (AssignTree TOTAL e) SkipTree

-- The total with one number more. No 0 is added.
abbrev pub taken : Gathers → ExprTree → StmtTree
taken gathers.Sum e = if is_0 e then SkipTree else AssignTree TOTAL (TwoTree op.Plus (Variable TOTAL) e)
taken gathers.Least e = taken_if e (Variable TOTAL) e
taken gathers.Greatest e = taken_if (Variable TOTAL) e e

-- Whether there are more numbers than one task takes, so many steps apart. The difference wraps only if the ends are 2^63 or more from each other: then the
-- numbers are taken one by one; or if there are none: then both halves have none.
abbrev pub is_long : (most by : ℤ) → TestTree
is_long n z = HoldsTree (TwoTree op.Below (Constant (saturate_signed w64 (n *ℤ z))) (to_end LOW HIGH))

-- Where a range of single steps is halved: both ends in their bits in common, and half of the others. Nothing wraps.
abbrev pub half_way : ExprTree
half_way =
    TwoTree op.Plus (TwoTree op.BitAnd (Variable LOW) (Variable HIGH))
    (TwoTree op.ShiftRight (TwoTree op.BitXor (Variable LOW) (Variable HIGH)) (Constant (pos 1)))

-- Where a range of longer steps is halved: a whole number of steps from its lower end, as near to the middle as that can be. Nothing wraps here, either, as
-- long as the difference does not.
abbrev pub half_by : (by : ℤ) → ExprTree
half_by z =
    TwoTree op.Plus (Variable LOW)
    (TwoTree op.Times (TwoTree op.ShiftRight (TwoTree op.Plus (TwoTree op.Over (to_end LOW HIGH) (Constant z)) (Constant (pos 1))) (Constant (pos 1))) (Constant z))

abbrev pub middle : (by : ℤ) → ExprTree
middle z = if int_eq z (pos 1) then half_way else half_by z

-- both halves as tasks of the same function, and then what is made of what they give
abbrev pub halved : Gathers → (function : ℕ) → (by : ℤ) → StmtTree
halved g p z =
    ThenTree (AssignTree TOTAL (middle z))
    (ThenTree (MakeTree (maker.Spawn LOWER) p (Variable LOW) (Variable TOTAL))
    (ThenTree (MakeTree (maker.Spawn UPPER) p (Variable TOTAL) (Variable HIGH))
    (ThenTree (WaitTree (Some TOTAL) None LOWER)
    (ThenTree (WaitTree (Some OTHER) None UPPER)
    (ThenTree (taken g (Variable OTHER)) (ReturnTree (Variable TOTAL)))))))

abbrev pub is_skip : StmtTree → Bool
is_skip SkipTree = true
is_skip s = false

-- A body that ends by going on with the next number: its end does that by itself.
abbrev pub to_its_end : StmtTree → StmtTree
to_its_end (ThenTree a b) = if is_skip b then to_its_end a else ThenTree a (to_its_end b)
to_its_end (IfTree c a b) = IfTree c (to_its_end a) (to_its_end b)
to_its_end (ContinueTree k) = if k == 0 then SkipTree else ContinueTree k
to_its_end s = s

-- the body for each number of the range
abbrev pub one_by_one : Gathers → (by : ℤ) → (body : StmtTree) → StmtTree
one_by_one g z body = ThenTree (AssignTree TOTAL (Constant (neutral g))) (ThenTree (turns LOW HIGH z (to_its_end body)) (ReturnTree (Variable TOTAL)))

-- the whole function
abbrev pub gathered : Gathers → (function : ℕ) → (most by : ℤ) → (body : StmtTree) → StmtTree
gathered g p n z body = IfTree (is_long n z) (halved g p z) (one_by_one g z body)
