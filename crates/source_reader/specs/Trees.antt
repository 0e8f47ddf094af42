-- Trees without where they lie in memory.
use Rattle.std.specs.Prelude.{ℕ, ℤ, List, Option}
use Rattle.source_language.specs.declared.syntax.Operator.{Operator}
use Rattle.source_language.specs.declared.syntax.Expr.{Expr}
use Rattle.source_language.specs.declared.syntax.Expr.TheVariants as expr
use Rattle.source_language.specs.declared.syntax.Test.{Test}
use Rattle.source_language.specs.declared.syntax.Test.TheVariants as test
use Rattle.source_language.specs.declared.syntax.Maker.{Maker}
use Rattle.source_language.specs.declared.syntax.Question.{Question}
use Rattle.source_language.specs.declared.syntax.Stmt.{Stmt}
use Rattle.source_language.specs.declared.syntax.Stmt.TheVariants as stmt
use Rattle.source_language.specs.declared.syntax.Function.{Function}
use Rattle.source_reader.specs.declared.headers.Title.{Title}
use Rattle.source_reader.specs.declared.headers.Header.{Header}
use Rattle.source_reader.specs.declared.headers.Callee.{Callee}
use Rattle.source_reader.specs.declared.inlines.Inline.{Inline}
use Rattle.source_reader.specs.declared.joining.Value.{Value}
use Rattle.source_reader.specs.declared.joining.Value.TheVariants as value

pub data ExprTree : Type 0 where
  Constant : ℤ → ExprTree
  Variable : ℕ → ExprTree
  SlotTree : ExprTree
  WidthTree : ExprTree
  TwoTree : Operator → ExprTree → ExprTree → ExprTree

pub data TestTree : Type 0 where
  HoldsTree : ExprTree → TestTree
  NotTree : TestTree → TestTree
  BothTree : TestTree → TestTree → TestTree
  EitherTree : TestTree → TestTree → TestTree

abbrev pub tree_of : Expr → ExprTree
tree_of (expr.Number n) = Constant n
tree_of (expr.Variable x) = Variable x
tree_of expr.Slot = SlotTree
tree_of expr.Width = WidthTree
tree_of (expr.Two' op p a q b) = TwoTree op (tree_of a) (tree_of b)

abbrev pub test_tree_of : Test → TestTree
test_tree_of (test.Holds e) = HoldsTree (tree_of e)
test_tree_of (test.Not' p t) = NotTree (test_tree_of t)
test_tree_of (test.Both' p a q b) = BothTree (test_tree_of a) (test_tree_of b)
test_tree_of (test.Either' p a q b) = EitherTree (test_tree_of a) (test_tree_of b)

-- a value: a number, or a condition
pub data ValueTree : Type 0 where
  NumberTree : ExprTree → ValueTree
  TruthTree : TestTree → ValueTree

abbrev pub value_tree_of : Value → ValueTree
value_tree_of (value.Number e) = NumberTree (tree_of e)
value_tree_of (value.Truth t) = TruthTree (test_tree_of t)

-- an inline function: how many parameters it has, and its value, where they are variables with the numbers from 0 on
pub record InlineTree : Type 0 where
  pub parameters : ℕ
  pub value : ValueTree

abbrev pub inline_tree_of : Inline → InlineTree
inline_tree_of f = record { parameters = f.parameters; value = value_tree_of f.value }

pub data StmtTree : Type 0 where
  SkipTree : StmtTree
  ThenTree : StmtTree → StmtTree → StmtTree
  AssignTree : ℕ → ExprTree → StmtTree
  IfTree : TestTree → StmtTree → StmtTree → StmtTree
  LoopTree : TestTree → (body step : StmtTree) → StmtTree
  RepeatTree : TestTree → (body step : StmtTree) → StmtTree
  BreakTree : ℕ → StmtTree
  ContinueTree : ℕ → StmtTree
  ReturnTree : ExprTree → StmtTree
  MakeTree : Maker → ℕ → ExprTree → ExprTree → StmtTree
  WaitTree : Option ℕ → Option ℕ → ℕ → StmtTree
  CancelTree : ℕ → StmtTree
  ReadTree : ℕ → Question → StmtTree
  StoreTree : ℕ → ExprTree → StmtTree

abbrev pub stmt_tree_of : Stmt → StmtTree
stmt_tree_of stmt.Skip = SkipTree
stmt_tree_of (stmt.Then' p a q b) = ThenTree (stmt_tree_of a) (stmt_tree_of b)
stmt_tree_of (stmt.Assign x e) = AssignTree x (tree_of e)
stmt_tree_of (stmt.If' c p a q b) = IfTree (test_tree_of c) (stmt_tree_of a) (stmt_tree_of b)
stmt_tree_of (stmt.Loop' c p b q s) = LoopTree (test_tree_of c) (stmt_tree_of b) (stmt_tree_of s)
stmt_tree_of (stmt.Repeat' c p b q s) = RepeatTree (test_tree_of c) (stmt_tree_of b) (stmt_tree_of s)
stmt_tree_of (stmt.Break k) = BreakTree k
stmt_tree_of (stmt.Continue k) = ContinueTree k
stmt_tree_of (stmt.Return e) = ReturnTree (tree_of e)
stmt_tree_of (stmt.Make m p a b) = MakeTree m p (tree_of a) (tree_of b)
stmt_tree_of (stmt.Wait d e g) = WaitTree d e g
stmt_tree_of (stmt.Cancel g) = CancelTree g
stmt_tree_of (stmt.Read d q) = ReadTree d q
stmt_tree_of (stmt.Store k e) = StoreTree k (tree_of e)

-- a function: how many variables it has, and its body
pub record FunctionTree : Type 0 where
  pub variables : ℕ
  pub body : StmtTree

abbrev pub function_tree_of : Function → FunctionTree
function_tree_of f = record { variables = f.variables; body = stmt_tree_of f.body }

-- what the others know of a function: its name, and the widths of its parameters, 0 for none
pub record HeaderTree : Type 0 where
  pub title : Title
  pub widths : List ℕ

abbrev pub header_tree_of : Header → HeaderTree
header_tree_of h = record { title = h.title; widths = h.widths.items }

-- a function that is called: its number, and the widths of its parameters
pub record CalleeTree : Type 0 where
  pub number : ℕ
  pub widths : List ℕ

abbrev pub callee_tree_of : Callee → CalleeTree
callee_tree_of c = record { number = c.number; widths = c.widths.now }
