-- What functions do depends on their trees alone, and not on where these lie in memory.
use Rattle.std.proofs.Common.{◌≡◌, ℕ, zero, suc, ◌+◌, ℤ, pos, Bool, true, false, List, [], ◌∷◌, map, Option, Some, None, option_map, refl, sym, ap, ap₂, ◌∙◌, arith}
use Rattle.std.specs.Prelude.{Box, Result, Ok, Err, not, slice_get, slice_set, slice_index_or}
use Rattle.std.proofs.lemmas.Option.{same_Some}
use Rattle.std.specs.Global.{Global}
use denote.RawPtr.{null_ptr}
use Rattle.source_language.specs.declared.syntax.Expr.{Expr}
use Rattle.source_language.specs.declared.syntax.Expr.TheVariants as expr
use Rattle.source_language.specs.declared.syntax.Test.{Test}
use Rattle.source_language.specs.declared.syntax.Test.TheVariants as test
use Rattle.source_language.specs.declared.syntax.Maker.TheVariants.{Spawn, Post, Isolate}
use Rattle.source_language.specs.declared.syntax.Stmt.{Stmt}
use Rattle.source_language.specs.declared.syntax.Stmt.TheVariants as stmt
use Rattle.source_language.specs.declared.syntax.Function.{Function}
use Rattle.source_language.specs.Meaning.{value_of, test_of, on_both, result_of, if_true, if_false, is_nought, Operation, Spawns, Posts, Isolates, Waits, Cancels, Asks, Loads, Sums, Counts, Stores}
use Rattle.source_language.specs.Meaning.{Returns, Todo, Do, Turn, Next, Point, Act, Goes, Divides, Does, next_turn, past_loop, with_value, with_test, goes, act_of, act_on, act, vars_answered}
use Rattle.source_language.specs.Meaning.{answered_on, answered}
use Rattle.source_reader.specs.Trees.{ExprTree, Constant, Variable, SlotTree, WidthTree, TwoTree, TestTree, HoldsTree, NotTree, BothTree, EitherTree, StmtTree, SkipTree, ThenTree, AssignTree, IfTree}
use Rattle.source_reader.specs.Trees.{LoopTree, RepeatTree, BreakTree, ContinueTree, ReturnTree, MakeTree, WaitTree, CancelTree, ReadTree, StoreTree, FunctionTree, tree_of, test_tree_of, stmt_tree_of}
use Rattle.source_reader.specs.Trees.{function_tree_of}
use Rattle.source_reader.specs.declared.faults.Fault.{Fault}
use Rattle.source_serial.proofs.Back.{longer}
use Rattle.source_tokens.specs.Givens.{Givens}
use Rattle.source_value.specs.TextValues.{HasValue}
use Rattle.source_serial.specs.SourceSerial.{SourceTask, sum_at, added, task_of, given_to, then_with, does_serially, serially, source_given, source_value}

-- one place in memory for all
abbrev here : Box (Unit {0}) Global
here = record { ptr = null_ptr; alloc = record { memory = record { seal = tt } }; value = tt }

abbrev expr_of : ExprTree → Expr
expr_of (Constant n) = expr.Number n
expr_of (Variable x) = expr.Variable x
expr_of SlotTree = expr.Slot
expr_of WidthTree = expr.Width
expr_of (TwoTree op a b) = expr.Two' op here (expr_of a) here (expr_of b)

abbrev test_in : TestTree → Test
test_in (HoldsTree e) = test.Holds (expr_of e)
test_in (NotTree t) = test.Not' here (test_in t)
test_in (BothTree a b) = test.Both' here (test_in a) here (test_in b)
test_in (EitherTree a b) = test.Either' here (test_in a) here (test_in b)

abbrev stmt_of : StmtTree → Stmt
stmt_of SkipTree = stmt.Skip
stmt_of (ThenTree a b) = stmt.Then' here (stmt_of a) here (stmt_of b)
stmt_of (AssignTree x e) = stmt.Assign x (expr_of e)
stmt_of (IfTree c a b) = stmt.If' (test_in c) here (stmt_of a) here (stmt_of b)
stmt_of (LoopTree c b s) = stmt.Loop' (test_in c) here (stmt_of b) here (stmt_of s)
stmt_of (RepeatTree c b s) = stmt.Repeat' (test_in c) here (stmt_of b) here (stmt_of s)
stmt_of (BreakTree k) = stmt.Break k
stmt_of (ContinueTree k) = stmt.Continue k
stmt_of (ReturnTree e) = stmt.Return (expr_of e)
stmt_of (MakeTree m p a b) = stmt.Make m p (expr_of a) (expr_of b)
stmt_of (WaitTree d e g) = stmt.Wait d e g
stmt_of (CancelTree g) = stmt.Cancel g
stmt_of (ReadTree d q) = stmt.Read d q
stmt_of (StoreTree k e) = stmt.Store k (expr_of e)

abbrev function_of : FunctionTree → Function
function_of f = record { variables = f.variables; body = stmt_of f.body }

-- the same functions, all in one place
abbrev moved : List Function → List Function
moved fs = map function_of (map function_tree_of fs)

abbrev moved_stmt : Stmt → Stmt
moved_stmt s = stmt_of (stmt_tree_of s)

abbrev moved_test : Test → Test
moved_test t = test_in (test_tree_of t)

abbrev moved_todo : Todo → Todo
moved_todo (Do s) = Do (moved_stmt s)
moved_todo (Turn c b s) = Turn (moved_test c) (moved_stmt b) (moved_stmt s)
moved_todo (Next c b s) = Next (moved_test c) (moved_stmt b) (moved_stmt s)

abbrev moved_point : Point → Point
moved_point p = record { vars = p.vars; todo = map moved_todo p.todo }

abbrev moved_act : Act → Act
moved_act (Goes p) = Goes (moved_point p)
moved_act Divides = Divides
moved_act (Does o) = Does o

module _ (slot width : ℕ) (vars : List ℤ) where
  same_value : (e : Expr) → value_of (expr_of (tree_of e)) slot width vars ≡ value_of e slot width vars
  same_value (expr.Number n) = refl
  same_value (expr.Variable x) = refl
  same_value expr.Slot = refl
  same_value expr.Width = refl
  same_value (expr.Two' op p a q b) = ap₂ (on_both (result_of op)) (same_value a) (same_value b)

  same_test : (t : Test) → test_of (moved_test t) slot width vars ≡ test_of t slot width vars
  same_test (test.Holds e) = ap (option_map (λ v. not (is_nought v))) (same_value e)
  same_test (test.Not' p t) = ap (option_map not) (same_test t)
  same_test (test.Both' p a q b) = ap₂ if_true (same_test a) (same_test b)
  same_test (test.Either' p a q b) = ap₂ if_false (same_test a) (same_test b)

-- what follows a value, or a test, moved
by_value : (o : Option ℤ) (f g : ℤ → Act) → ((v : ℤ) → f v ≡ moved_act (g v)) → with_value o f ≡ moved_act (with_value o g)
by_value None f g h = refl
by_value (Some v) f g h = h v

by_test : (o : Option Bool) (a b : Act) → with_test o (moved_act a) (moved_act b) ≡ moved_act (with_test o a b)
by_test None a b = refl
by_test (Some true) a b = refl
by_test (Some false) a b = refl

next_moved : (todo : List Todo) (k : ℕ) → next_turn (map moved_todo todo) k ≡ map moved_todo (next_turn todo k)
next_moved [] k = refl
next_moved (Do s ∷ todo) k = next_moved todo k
next_moved (Turn c b s ∷ todo) k = next_moved todo k
next_moved (Next c b s ∷ todo) zero = refl
next_moved (Next c b s ∷ todo) (suc k) = next_moved todo k

past_moved : (todo : List Todo) (k : ℕ) → past_loop (map moved_todo todo) k ≡ map moved_todo (past_loop todo k)
past_moved [] k = refl
past_moved (Do s ∷ todo) k = past_moved todo k
past_moved (Turn c b s ∷ todo) k = past_moved todo k
past_moved (Next c b s ∷ todo) zero = refl
past_moved (Next c b s ∷ todo) (suc k) = past_moved todo k

module _ (slot width : ℕ) (vars : List ℤ) where
  value_then : (e : Expr) (f g : ℤ → Act) → ((v : ℤ) → f v ≡ moved_act (g v)) → with_value (value_of (expr_of (tree_of e)) slot width vars) f ≡ moved_act (with_value (value_of e slot width vars) g)
  value_then e f g h = ap (λ o. with_value o f) (same_value slot width vars e) ∙ by_value (value_of e slot width vars) f g h

  test_then : (t : Test) (a b : Act) → with_test (test_of (moved_test t) slot width vars) (moved_act a) (moved_act b) ≡ moved_act (with_test (test_of t slot width vars) a b)
  test_then t a b = ap (λ o. with_test o (moved_act a) (moved_act b)) (same_test slot width vars t) ∙ by_test (test_of t slot width vars) a b

  stmt_moved : (s : Stmt) (rest : List Todo) → act_of (moved_stmt s) slot width vars (map moved_todo rest) ≡ moved_act (act_of s slot width vars rest)
  stmt_moved stmt.Skip rest = refl
  stmt_moved (stmt.Then' p a q b) rest = refl
  stmt_moved (stmt.Assign x e) rest = value_then e _ _ (λ v. refl)
  stmt_moved (stmt.If' c p a q b) rest = test_then c (goes vars (Do a ∷ rest)) (goes vars (Do b ∷ rest))
  stmt_moved (stmt.Loop' c p b q s) rest = refl
  stmt_moved (stmt.Repeat' c p b q s) rest = refl
  stmt_moved (stmt.Break k) rest = ap (goes vars) (past_moved rest k)
  stmt_moved (stmt.Continue k) rest = ap (goes vars) (next_moved rest k)
  stmt_moved (stmt.Return e) rest = value_then e _ _ (λ v. refl)
  stmt_moved (stmt.Make m p a b) rest = value_then a _ _ (λ x. value_then b _ _ (λ y. refl))
  stmt_moved (stmt.Wait d e g) rest = refl
  stmt_moved (stmt.Cancel g) rest = refl
  stmt_moved (stmt.Read d q) rest = refl
  stmt_moved (stmt.Store k e) rest = value_then e _ _ (λ v. refl)

  on_moved : (todo : List Todo) → act_on slot width vars (map moved_todo todo) ≡ moved_act (act_on slot width vars todo)
  on_moved [] = refl
  on_moved (Do s ∷ rest) = stmt_moved s rest
  on_moved (Turn c b s ∷ rest) = test_then c (goes vars (Do b ∷ Next c b s ∷ rest)) (goes vars rest)
  on_moved (Next c b s ∷ rest) = refl

vars_moved : (s : Stmt) (x y : ℤ) (vars : List ℤ) → vars_answered (moved_stmt s) x y vars ≡ vars_answered s x y vars
vars_moved stmt.Skip x y vars = refl
vars_moved (stmt.Then' p a q b) x y vars = refl
vars_moved (stmt.Assign z e) x y vars = refl
vars_moved (stmt.If' c p a q b) x y vars = refl
vars_moved (stmt.Loop' c p b q s) x y vars = refl
vars_moved (stmt.Repeat' c p b q s) x y vars = refl
vars_moved (stmt.Break k) x y vars = refl
vars_moved (stmt.Continue k) x y vars = refl
vars_moved (stmt.Return e) x y vars = refl
vars_moved (stmt.Make (Spawn g) p a b) x y vars = refl
vars_moved (stmt.Make Post p a b) x y vars = refl
vars_moved (stmt.Make (Isolate d) p a b) x y vars = refl
vars_moved (stmt.Wait d e g) x y vars = refl
vars_moved (stmt.Cancel g) x y vars = refl
vars_moved (stmt.Read d q) x y vars = refl
vars_moved (stmt.Store k e) x y vars = refl

answered_moved : (vars : List ℤ) (todo : List Todo) (x y : ℤ) → answered_on vars (map moved_todo todo) x y ≡ moved_point (answered_on vars todo x y)
answered_moved vars [] x y = refl
answered_moved vars (Do s ∷ rest) x y = ap (λ (l : List ℤ). record { vars = l; todo = map moved_todo rest }) (vars_moved s x y vars)
answered_moved vars (Turn c b s ∷ rest) x y = refl
answered_moved vars (Next c b s ∷ rest) x y = refl

task_moved : (fs : List Function) (p : ℕ) (F G : SourceTask → Option ℤ) → ((t : SourceTask) → F (record { point = moved_point t.point; sums = t.sums }) ≡ G t) → (x y : ℤ)
    → given_to F (task_of (slice_get (moved fs) p) x y) ≡ given_to G (task_of (slice_get fs p) x y)
task_moved [] p F G h x y = refl
task_moved (f ∷ fs) zero F G h x y = h _
task_moved (f ∷ fs) (suc p) F G h x y = task_moved fs p F G h x y

then_same : (o : Option ℤ) (f g : ℤ → Option ℤ) → ((v : ℤ) → f v ≡ g v) → then_with o f ≡ then_with o g
then_same None f g h = refl
then_same (Some v) f g h = h v

module _ (fs : List Function) where
  given_moved : (n : ℕ) (t : SourceTask) → source_given n (moved fs) (record { point = moved_point t.point; sums = t.sums }) ≡ source_given n fs t
  given_moved zero t = refl
  given_moved (suc n) t = ap (serially F (moved fs) u) (on_moved 0 0 t.point.vars t.point.todo) ∙ by_act (given_moved n) (act 0 0 t.point)
    where
      F : SourceTask → Option ℤ
      F = source_given n (moved fs)

      G : SourceTask → Option ℤ
      G = source_given n fs

      u : SourceTask
      u = record { point = moved_point t.point; sums = t.sums }

      goes_on : ((t : SourceTask) → F (record { point = moved_point t.point; sums = t.sums }) ≡ G t) → (x y : ℤ) (sums : List (Option ℤ))
          → F (record { point = answered u.point x y; sums = sums }) ≡ G (record { point = answered t.point x y; sums = sums })
      goes_on ih x y sums = ap (λ (p : Point). F (record { point = p; sums = sums })) (answered_moved t.point.vars t.point.todo x y) ∙ ih (record { point = answered t.point x y; sums = sums })

      by_operation : ((t : SourceTask) → F (record { point = moved_point t.point; sums = t.sums }) ≡ G t) → (o : Operation) → does_serially F (moved fs) u o ≡ does_serially G fs t o
      by_operation ih (Spawns g p x y) =
          ap (λ o. then_with o (λ v. F (record { point = answered u.point (pos 0) (pos 0); sums = added t.sums g v }))) (task_moved fs p F G ih x y)
          ∙ then_same (given_to G (task_of (slice_get fs p) x y)) _ _ (λ v. goes_on ih (pos 0) (pos 0) (added t.sums g v))
      by_operation ih (Isolates p x y) =
          ap (λ o. then_with o (λ v. F (record { point = answered u.point v (pos 0); sums = t.sums }))) (task_moved fs p F G ih x y)
          ∙ then_same (given_to G (task_of (slice_get fs p) x y)) _ _ (λ v. goes_on ih v (pos 0) t.sums)
      by_operation ih (Waits g) = goes_on ih (sum_at t.sums g) (pos 1) (slice_set t.sums g None)
      by_operation ih (Posts p x y) = refl
      by_operation ih (Cancels g) = refl
      by_operation ih Asks = refl
      by_operation ih (Loads k) = refl
      by_operation ih (Sums k) = refl
      by_operation ih (Counts k) = refl
      by_operation ih (Stores k x) = refl
      by_operation ih (Returns x) = refl

      by_act : ((t : SourceTask) → F (record { point = moved_point t.point; sums = t.sums }) ≡ G t) → (a : Act) → serially F (moved fs) u (moved_act a) ≡ serially G fs t a
      by_act ih (Goes q) = ih (record { point = q; sums = t.sums })
      by_act ih Divides = refl
      by_act ih (Does o) = by_operation ih o

value_moved : (fs : List Function) (args : List ℤ) (n : ℕ) → source_value (moved fs) args n ≡ source_value fs args n
value_moved fs args n = task_moved fs 0 (source_given n (moved fs)) (source_given n fs) (given_moved fs n) (slice_index_or args 0 (pos 0)) (slice_index_or args 1 (pos 0))

given_longer : (fs : List Function) (n j : ℕ) (v : ℤ) (o : Option SourceTask) → given_to (source_given n fs) o ≡ Some v → given_to (source_given (n + j) fs) o ≡ Some v
given_longer fs n j v None e = e
given_longer fs n j v (Some t) e = longer fs n j t v e

value_longer : (fs : List Function) (args : List ℤ) (n j : ℕ) (v : ℤ) → source_value fs args n ≡ Some v → source_value fs args (n + j) ≡ Some v
value_longer fs args n j v e = given_longer fs n j v (task_of (slice_get fs 0) (slice_index_or args 0 (pos 0)) (slice_index_or args 1 (pos 0))) e

abbrev trees_in : Result (List FunctionTree) Fault → List FunctionTree
trees_in (Ok fs) = fs
trees_in (Err e) = []

pub one_value : (gs : Givens) (text : List ℕ) (args : List ℤ) (v w : ℤ) → HasValue gs text args v → HasValue gs text args w → v ≡ w
one_value gs text args v w a b =
    let fs = a.functions in
    let gs = b.functions in
    let n = a.steps in
    let m = b.steps in
    let same : map function_tree_of fs ≡ map function_tree_of gs = ap trees_in (sym a.said ∙ b.said) in
    let long : m + n ≡ n + m = omega arith in
    let first : source_value fs args (n + m) ≡ Some v = value_longer fs args n m v a.gives in
    let second : source_value gs args (n + m) ≡ Some w = ap (source_value gs args) (sym long) ∙ value_longer gs args m n w b.gives in
    let moves : source_value fs args (n + m) ≡ source_value gs args (n + m) =
    sym (value_moved fs args (n + m)) ∙ ap (λ (ts : List FunctionTree). source_value (map function_of ts) args (n + m)) same ∙ value_moved gs args (n + m) in
    same_Some v w (sym first ∙ moves ∙ second)
