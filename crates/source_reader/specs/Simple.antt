-- Statements without blocks.
use Rattle.std.specs.Prelude.{ℕ, ℤ, true, List, [], ◌∷◌, drop, Option, Some, None, is_none, Result, Ok, Err, if◌then◌else◌}
use Rattle.source_tokens.specs.declared.tokens.Kind.{Kind}
use Rattle.source_tokens.specs.declared.tokens.Kind.TheVariants as kind
use Rattle.source_tokens.specs.declared.tokens.Token.{Token}
use Rattle.source_reader.specs.declared.faults.Fault.{Fault}
use Rattle.source_reader.specs.declared.faults.Wrong.TheVariants as wrong
use Rattle.source_reader.specs.Faults.{◌>>=◌, fault_at}
use Rattle.source_reader.specs.Trees.{value_tree_of, TestTree, ValueTree, StmtTree, Variable, NumberTree, SkipTree, WaitTree}
use Rattle.source_reader.specs.declared.names.Meaning.{Meaning}
use Rattle.source_reader.specs.declared.names.Meaning.TheVariants as meaning
use Rattle.source_reader.specs.declared.simple.Count.{Count}
use Rattle.source_reader.specs.declared.tasks.Reach.TheVariants as reach
use Rattle.source_reader.specs.declared.names.TheConstants.{NAMELESS}
use Rattle.source_reader.specs.Names.{Scope, Inner, meaning_of, new_number, number_behind}
use Rattle.source_reader.specs.declared.names.TaskGroup.{TaskGroup}
use Rattle.source_reader.specs.Tasks.{group_number, pending_task}
use Rattle.source_reader.specs.Waits.{awaited_at}
use Rattle.source_reader.specs.Joining.{test_in, operation, a_number}
use Rattle.source_reader.specs.Values.{whole_value}
use Rattle.source_reader.specs.Constants.{step_at}
use Rattle.source_reader.specs.declared.calls.Run.TheVariants as run
use Rattle.source_reader.specs.declared.givers.Giver.{Giver}
use Rattle.source_reader.specs.Calls.{run_at, is_spawn, spawn_at}
use Rattle.source_reader.specs.Groups.{own_group_at}
use Rattle.source_reader.specs.Cells.{store_at}
use Rattle.source_reader.specs.Givers.{giver_at, given_by}
use Rattle.source_reader.specs.Lines.{assigned, after_set, after_in, after_range, free_name}
use Rattle.source_reader.specs.Marks.{unexpected}
use Rattle.source_reader.specs.Statuses.{status_at}
use Rattle.source_reader.specs.Widths.{is_comma}

abbrev pub condition_at : Scope → List Token → Result (TestTree × List Token) Fault
condition_at names ts = do
  v ← whole_value names ts
  Ok (test_in v.0, v.1)

-- a statement, and the tokens after it
abbrev pub ReadStmt : Type 0
ReadStmt = Result (StmtTree × List Token) Fault

-- the number of a new variable with the name at the front
abbrev pub new_name : Scope → List Token → Result ℕ Fault
new_name names ts = free_name names ts >>= λ x. new_number names ts

abbrev pub set_at : Scope → ℕ → List Token → ReadStmt
set_at names x rest = do
  v ← whole_value names rest
  Ok (assigned x v.0, v.1)

abbrev pub given_from : Option Giver → Scope → ℕ → List Token → ReadStmt
given_from (Some g) names x ts = given_by g names x ts
given_from None names x ts = set_at names x ts

-- Behind `=`: what is given to a variable.
abbrev pub given_at : Scope → ℕ → List Token → ReadStmt
given_at names x ts = given_from (giver_at names ts) names x ts

-- Behind `=` of a new variable, whose name is the first of the tokens `name`.
abbrev pub declared_at : Scope → ℕ → (name ts : List Token) → ReadStmt
declared_at names n name ts = if is_spawn ts then spawn_at names name (drop 1 ts) else given_at names n ts

abbrev pub one_declared : Scope → List Token → ReadStmt
one_declared names ts = do
  n ← new_name names ts
  rest ← after_set (drop 1 ts)
  declared_at names n ts rest

-- behind `let`
abbrev pub let_at : Scope → List Token → ReadStmt
let_at names ts = if is_comma (drop 1 ts) then status_at names ts else one_declared names ts

abbrev pub updated_of : Kind → Scope → ℕ → List Token → List Token → ReadStmt
updated_of kind.Set names x rest ts = given_at names x rest
updated_of (kind.Update op) names x rest ts = do
  v ← whole_value names rest
  e ← a_number (operation op (NumberTree (Variable x)) v.0 ts)
  Ok (assigned x e, v.1)
updated_of k names x rest ts = unexpected ts

-- behind the name of a variable
abbrev pub updated : Scope → ℕ → List Token → ReadStmt
updated names x [] = unexpected []
updated names x (t ∷ ts) = updated_of t.kind names x ts (t ∷ ts)

-- Only variables, tasks that were waited for, and cells are assigned to. The name is the first of the tokens.
abbrev pub assigned_to : Scope → Meaning → List Token → List Token → ReadStmt
assigned_to names (meaning.Variable v) ts rest = updated names v rest
assigned_to names (meaning.Awaited v) ts rest = updated names v rest
assigned_to names (meaning.Closed v) ts rest = Err (fault_at ts wrong.NotAssigned)
assigned_to names (meaning.Task t) ts rest = Err (fault_at ts wrong.NotWaited)
assigned_to names (meaning.OuterTask t) ts rest = Err (fault_at ts wrong.NotWaited)
assigned_to names (meaning.Counter v) ts rest = Err (fault_at ts wrong.NotAssigned)
assigned_to names (meaning.Constant z) ts rest = Err (fault_at ts wrong.NotAssigned)
assigned_to names (meaning.Cell k) ts rest = store_at names k rest
assigned_to names meaning.Inline ts rest = Err (fault_at ts wrong.NotAssigned)

abbrev pub assigned_at : Scope → Option Meaning → List Token → List Token → ReadStmt
assigned_at names None ts rest = Err (fault_at ts wrong.UnknownName)
assigned_at names (Some m) ts rest = assigned_to names m ts rest

abbrev pub wait_from : Option TaskGroup → Scope → List Token → ReadStmt
wait_from (Some g) names ts = Ok (WaitTree None None (group_number g), drop 1 ts)
wait_from None names ts = awaited_at names ts >>= λ v. Ok (SkipTree, drop 1 ts)

-- Behind `wait`: for a task it is done already. What a group adds up to is dropped.
abbrev pub wait_at : Scope → List Token → ReadStmt
wait_at names ts = wait_from (own_group_at names ts) names ts

-- the wait for the tasks of the function that have no name and no group, if it has some
abbrev pub nameless_waited : Option Meaning → StmtTree
nameless_waited (Some (meaning.Task t)) = WaitTree None None (group_number t.group)
nameless_waited (Some (meaning.OuterTask t)) = WaitTree None None (group_number t.group)
nameless_waited m = SkipTree

-- `sync`, which is the first of the tokens, behind its waits for tasks that have names: the blocks around have none that was not waited for.
abbrev pub sync_at : Scope → (ts rest : List Token) → ReadStmt
sync_at names ts rest = if is_none (pending_task reach.Function names) then Ok (nameless_waited (meaning_of NAMELESS names), rest) else Err (fault_at ts wrong.WaitSkipped)

-- A region alone: its value goes to one more variable, which nothing reads.
abbrev pub region_at : Scope → List Token → ReadStmt
region_at names ts = do
  n ← new_number names ts
  run_at names (run.Isolate n) (drop 1 ts)

-- the head of a loop that counts: its index and that one's variable, the variable of the end, both values, and the step
pub record CountTree : Type 0 where
  pub name : ℕ
  pub index : ℕ
  pub end : ℕ
  pub low : ValueTree
  pub high : ValueTree
  pub by : ℤ

abbrev pub view_count : Count → CountTree
view_count c = record { name = c.name; index = c.index; end = c.end; low = value_tree_of c.low; high = value_tree_of c.high; by = c.by }

-- Behind `for`: neither value sees the index, which may hide a name of the block around the loop.
abbrev pub count_at : Scope → List Token → Result (CountTree × List Token) Fault
count_at names ts = do
  x ← free_name (Inner true names) ts
  i ← new_number names ts
  h ← number_behind i ts
  from ← after_in (drop 1 ts)
  low ← whole_value names from
  to ← after_range low.1
  high ← whole_value names to
  by ← step_at names high.1
  Ok (record { name = x; index = i; end = h; low = low.0; high = high.0; by = by.0 }, by.1)
