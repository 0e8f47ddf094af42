-- Loops that count.
use Rattle.std.specs.Prelude.{ℕ, ℤ, pos, int_lt, if◌then◌else◌}
use Rattle.std.specs.Ordering.{int_eq}
use Rattle.source_language.specs.declared.syntax.Operator.TheVariants as op
use Rattle.source_reader.specs.Lines.{assigned}
use Rattle.source_reader.specs.Trees.{ExprTree, TestTree, ValueTree, StmtTree}
use Rattle.source_reader.specs.Trees.{Constant, Variable, TwoTree, HoldsTree, NotTree, EitherTree, ThenTree, AssignTree, IfTree, LoopTree}

-- whether the end is not reached
abbrev pub before_end : (index end : ℕ) → (by : ℤ) → ExprTree
before_end i h by = if int_lt by (pos 0) then TwoTree op.Below (Variable h) (Variable i) else TwoTree op.Below (Variable i) (Variable h)

-- how far the end is, which may wrap
abbrev pub to_end : (index end : ℕ) → ExprTree
to_end i h = TwoTree op.Minus (Variable h) (Variable i)

abbrev pub is_behind : ExprTree → TestTree
is_behind e = HoldsTree (TwoTree op.Below e (Constant (pos 0)))

-- Whether the end, which is not reached, is further than a step. If the sign of the difference is not the step's, it has wrapped.
abbrev pub is_further : (index end : ℕ) → (by : ℤ) → TestTree
is_further i h by =
    if int_lt by (pos 0) then EitherTree (NotTree (is_behind (to_end i h))) (HoldsTree (TwoTree op.Below (to_end i h) (Constant by)))
    else EitherTree (is_behind (to_end i h)) (HoldsTree (TwoTree op.Below (Constant by) (to_end i h)))

abbrev pub advanced : (index : ℕ) → (by : ℤ) → StmtTree
advanced i by = AssignTree i (TwoTree op.Plus (Variable i) (Constant by))

-- To the next number of the index, or to the end. One by one no number is skipped, and none wraps.
abbrev pub next_number : (index end : ℕ) → (by : ℤ) → StmtTree
next_number i h by = if int_eq by (pos 1) then advanced i by else IfTree (is_further i h by) (advanced i by) (AssignTree i (Variable h))

-- the turns of a loop whose index is set already
abbrev pub turns : (index end : ℕ) → (by : ℤ) → StmtTree → StmtTree
turns i h by body = LoopTree (HoldsTree (before_end i h by)) body (next_number i h by)

-- The index counts up to an end that is computed once, or down to it.
abbrev pub counting_loop : (index end : ℕ) → (by : ℤ) → (low high : ValueTree) → StmtTree → StmtTree
counting_loop i h by low high body = ThenTree (assigned i low) (ThenTree (assigned h high) (turns i h by body))
