-- Functions that are run: called, spawned, as regions, or posted.
use Rattle.std.specs.Prelude.{ℕ, ℤ, pos, ◌==◌, ◌||◌, Bool, true, false, List, [], ◌∷◌, drop, Option, Some, None, is_none, Result, Ok, Err, if◌then◌else◌}
use Rattle.std.specs.Int.{int_shr}
use Rattle.std.specs.Ordering.{int_eq}
use Rattle.source_language.specs.declared.syntax.Maker.TheVariants as maker
use Rattle.source_language.specs.Meaning.{shift_of}
use Rattle.source_tokens.specs.declared.tokens.Kind.{Kind}
use Rattle.source_tokens.specs.declared.tokens.Kind.TheVariants as kind
use Rattle.source_tokens.specs.declared.tokens.Token.{Token}
use Rattle.source_reader.specs.declared.calls.Arguments.{Arguments}
use Rattle.source_reader.specs.declared.calls.Run.{Run}
use Rattle.source_reader.specs.declared.calls.Run.TheVariants as run
use Rattle.source_reader.specs.declared.calls.TheConstants.{CALLS}
use Rattle.source_reader.specs.declared.faults.Fault.{Fault}
use Rattle.source_reader.specs.declared.faults.Wrong.TheVariants as wrong
use Rattle.source_reader.specs.declared.headers.Title.{Title}
use Rattle.source_reader.specs.declared.headers.Title.TheVariants as title
use Rattle.source_reader.specs.Faults.{◌>>=◌, fault_at}
use Rattle.source_reader.specs.Headers.{title_at, callee_in}
use Rattle.source_reader.specs.declared.layouts.Taken.{Taken}
use Rattle.source_reader.specs.Joining.{number_in}
use Rattle.source_reader.specs.Layouts.{nothing_taken, with_one, packed_with}
use Rattle.source_reader.specs.Names.{Scope, functions_in}
use Rattle.source_reader.specs.declared.names.TaskGroup.TheVariants as task_group
use Rattle.source_reader.specs.declared.tasks.Reach.TheVariants as reach
use Rattle.source_reader.specs.Tasks.{group_number, free_group, task_in}
use Rattle.source_reader.specs.Trees.{CalleeTree, tree_of, ExprTree, StmtTree, Constant, ThenTree, MakeTree, WaitTree}
use Rattle.source_reader.specs.Values.{whole_value}
use Rattle.source_reader.specs.Marks.{unexpected, after_open, is_close, wrong_count, after_last, before_next}

abbrev pub found : Option CalleeTree → List Token → Result CalleeTree Fault
found None ts = Err (fault_at ts wrong.UnknownFunction)
found (Some f) ts = Ok f

abbrev pub callee_titled : Title → Scope → List Token → Result CalleeTree Fault
callee_titled title.Missing names ts = unexpected ts
callee_titled title.Main names ts = found (callee_in title.Main (functions_in names) 0) ts
callee_titled (title.Name x) names ts = found (callee_in (title.Name x) (functions_in names) 0) ts
callee_titled (title.Gathering n) names ts = found (callee_in (title.Gathering n) (functions_in names) 0) ts

-- the function whose name is at the front
abbrev pub callee_at : Scope → List Token → Result CalleeTree Fault
callee_at names ts = callee_titled (title_at ts) names ts

-- A condition is no argument.
abbrev pub argument_at : Scope → List Token → Result (ExprTree × List Token) Fault
argument_at names ts = do
  v ← whole_value names ts
  e ← number_in v.0 ts
  Ok (e, v.1)

-- the two numbers that a task gets
pub record ArgumentTrees : Type 0 where
  pub first : ExprTree
  pub second : ExprTree

abbrev pub view_arguments : Arguments → ArgumentTrees
view_arguments a = record { first = tree_of a.first; second = tree_of a.second }

abbrev pub ReadArguments : Type 0
ReadArguments = Result (ArgumentTrees × List Token) Fault

abbrev pub no_arguments : ArgumentTrees
no_arguments = record { first = Constant (pos 0); second = Constant (pos 0) }

abbrev pub no_argument : (called ts : List Token) → ReadArguments
no_argument called ts = if is_close ts then Ok (no_arguments, drop 1 ts) else wrong_count called

-- whether nothing is left of a number above so many bits, if there is a width
abbrev pub does_fit : ℤ → (bits : ℕ) → Bool
does_fit z b = b == 0 || int_eq (int_shr z (shift_of (pos b))) (pos 0)

-- Of an argument that is written as a number it is known whether it fits.
abbrev pub if_fits : ExprTree → (bits : ℕ) → List Token → Result ExprTree Fault
if_fits (Constant z) b ts = if does_fit z b then Ok (Constant z) else Err (fault_at ts wrong.TooWide)
if_fits e b ts = Ok e

abbrev pub arguments_of : ExprTree × ExprTree → ArgumentTrees
arguments_of x = record { first = x.0; second = x.1 }

-- with one more argument, for a parameter of that width
abbrev pub with_argument : Taken → (bits : ℕ) → ArgumentTrees → ExprTree → ArgumentTrees
with_argument t b a e = arguments_of (packed_with t b a.first a.second e)

-- behind an argument, where others are wanted, or the end
abbrev pub behind_argument : (others : List ℕ) → (called ts : List Token) → Result (List Token) Fault
behind_argument [] called ts = after_last called ts
behind_argument (b ∷ bs) called ts = before_next called ts

-- arguments for parameters of these widths, behind others
abbrev pub arguments_from : Scope → Taken → ArgumentTrees → (widths : List ℕ) → (called ts : List Token) → ReadArguments
arguments_from names t before [] called ts = Ok (before, ts)
arguments_from names t before (b ∷ bs) called ts = do
  v ← argument_at names ts
  e ← if_fits v.0 b ts
  rest ← behind_argument bs called v.1
  arguments_from names (with_one t b) (with_argument t b before e) bs called rest

-- Behind `(`. A number that no parameter is in is 0.
abbrev pub arguments_at : Scope → (widths : List ℕ) → (called ts : List Token) → ReadArguments
arguments_at names [] called ts = no_argument called ts
arguments_at names (b ∷ bs) called ts = if is_close ts then wrong_count called else arguments_from names nothing_taken no_arguments (b ∷ bs) called ts

-- What is made of the function of that number. The task of a call is made in a group that no other task has, and waited for; its value goes to the variable, if there is one.
abbrev pub made : Run → (number : ℕ) → ArgumentTrees → StmtTree
made (run.Call d) f a = ThenTree (MakeTree (maker.Spawn CALLS) f a.first a.second) (WaitTree d None CALLS)
made (run.Spawn g) f a = MakeTree (maker.Spawn (group_number g)) f a.first a.second
made (run.Isolate d) f a = MakeTree (maker.Isolate d) f a.first a.second
made run.Post f a = MakeTree maker.Post f a.first a.second

-- A call has a group as long as no task or group of the function has the fourth one.
abbrev pub if_group_left : Run → Scope → List Token → Result Run Fault
if_group_left (run.Call d) names ts = if is_none (task_in reach.Function task_group.Fourth names) then Ok (run.Call d) else Err (fault_at ts wrong.NoGroup)
if_group_left r names ts = Ok r

-- behind `call`, `spawn`, `isolate` or `post`
abbrev pub run_at : Scope → Run → List Token → Result (StmtTree × List Token) Fault
run_at names r ts = do
  f ← callee_at names ts
  how ← if_group_left r names ts
  inside ← after_open (drop 1 ts)
  a ← arguments_at names f.widths ts inside
  Ok (made how f.number a.0, a.1)

-- Behind `spawn`: a task in the first group that is free. Its name is the first of the tokens `name`.
abbrev pub spawn_at : Scope → (name ts : List Token) → Result (StmtTree × List Token) Fault
spawn_at names name ts = do
  g ← free_group names name
  run_at names (run.Spawn g) ts

abbrev pub is_spawn_of : Kind → Bool
is_spawn_of kind.Spawn = true
is_spawn_of k = false

abbrev pub is_spawn : List Token → Bool
is_spawn [] = false
is_spawn (t ∷ ts) = is_spawn_of t.kind
