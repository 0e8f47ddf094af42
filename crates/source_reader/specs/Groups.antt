-- Groups that have names: any number of tasks, which are waited for at once.
use Rattle.std.specs.Prelude.{List, [], ◌∷◌, drop, Option, Some, None, Result, Ok, Err, if◌then◌else◌}
use Rattle.source_tokens.specs.declared.tokens.Kind.{Kind}
use Rattle.source_tokens.specs.declared.tokens.Kind.TheVariants as kind
use Rattle.source_tokens.specs.declared.tokens.Token.{Token}
use Rattle.source_reader.specs.declared.calls.Run.TheVariants as run
use Rattle.source_reader.specs.declared.faults.Fault.{Fault}
use Rattle.source_reader.specs.declared.faults.Wrong.TheVariants as wrong
use Rattle.source_reader.specs.declared.names.Meaning.{Meaning}
use Rattle.source_reader.specs.declared.names.Meaning.TheVariants as meaning
use Rattle.source_reader.specs.declared.names.Task.{Task}
use Rattle.source_reader.specs.declared.names.TaskGroup.{TaskGroup}
use Rattle.source_reader.specs.declared.names.TheConstants.{NAMELESS}
use Rattle.source_reader.specs.Faults.{◌>>=◌, fault_at}
use Rattle.source_reader.specs.Names.{Scope, meaning_of}
use Rattle.source_reader.specs.Tasks.{group_number, free_group}
use Rattle.source_reader.specs.Trees.{StmtTree, SkipTree, CancelTree}
use Rattle.source_reader.specs.Lines.{free_name}
use Rattle.source_reader.specs.Calls.{run_at}
use Rattle.source_reader.specs.Marks.{unexpected, is_open}
use Rattle.source_reader.specs.Statuses.{group_awaited}
use Rattle.source_reader.specs.Widths.{is_comma}

abbrev pub if_group : Task → Option TaskGroup
if_group t = if t.is_group then Some t.group else None

-- the group that a name means, if it is one of this block that was not waited for
abbrev pub own_group : Option Meaning → Option TaskGroup
own_group (Some (meaning.Task t)) = if_group t
own_group m = None

abbrev pub own_group_of : Kind → Scope → Option TaskGroup
own_group_of (kind.Name x) names = own_group (meaning_of x names)
own_group_of k names = None

-- such a group, whose name is at the front
abbrev pub own_group_at : Scope → List Token → Option TaskGroup
own_group_at names [] = None
own_group_at names (t ∷ ts) = own_group_of t.kind names

abbrev pub waited_group_of : Kind → Scope → (rest : List Token) → Option TaskGroup
waited_group_of kind.Wait names rest = own_group_at names rest
waited_group_of k names rest = None

-- such a group, if `wait` and its name are at the front
abbrev pub waited_group : Scope → List Token → Option TaskGroup
waited_group names [] = None
waited_group names (t ∷ ts) = waited_group_of t.kind names ts

-- behind `let` and a name
abbrev pub let_gathered : Scope → List Token → Option TaskGroup
let_gathered names ts = if is_comma ts then group_awaited names (drop 1 (drop 1 (drop 1 ts))) else waited_group names (drop 1 ts)

abbrev pub gathered_of : Kind → Scope → List Token → Option TaskGroup
gathered_of kind.Wait names ts = waited_group names ts
gathered_of kind.Let names ts = let_gathered names (drop 1 (drop 1 ts))
gathered_of (kind.Name x) names ts = waited_group names (drop 1 (drop 1 ts))
gathered_of k names ts = None

-- the group that the line at the front waits for: `wait g`, `let x = wait g`, `x = wait g`, or `let x, s = wait g`, where it may be that of a task
abbrev pub gathered : Scope → List Token → Option TaskGroup
gathered names [] = None
gathered names (t ∷ ts) = gathered_of t.kind names (t ∷ ts)

abbrev pub into_group : Task → List Token → Result TaskGroup Fault
into_group t ts = if t.is_group then Ok t.group else Err (fault_at ts wrong.NotGroup)

-- a group that was not waited for, of this block or one around it
abbrev pub open_group : Option Meaning → List Token → Result TaskGroup Fault
open_group None ts = Err (fault_at ts wrong.UnknownName)
open_group (Some (meaning.Task t)) ts = into_group t ts
open_group (Some (meaning.OuterTask t)) ts = into_group t ts
open_group (Some m) ts = Err (fault_at ts wrong.NotGroup)

-- what can be cancelled: a task or a group that was not waited for
abbrev pub open_task : Option Meaning → List Token → Result TaskGroup Fault
open_task None ts = Err (fault_at ts wrong.UnknownName)
open_task (Some (meaning.Task t)) ts = Ok t.group
open_task (Some (meaning.OuterTask t)) ts = Ok t.group
open_task (Some m) ts = Err (fault_at ts wrong.NotGroup)

abbrev pub open_group_of : Kind → Scope → List Token → Result TaskGroup Fault
open_group_of (kind.Name x) names ts = open_group (meaning_of x names) ts
open_group_of k names ts = unexpected ts

abbrev pub open_group_at : Scope → List Token → Result TaskGroup Fault
open_group_at names [] = unexpected []
open_group_at names (t ∷ ts) = open_group_of t.kind names (t ∷ ts)

abbrev pub open_task_of : Kind → Scope → List Token → Result TaskGroup Fault
open_task_of (kind.Name x) names ts = open_task (meaning_of x names) ts
open_task_of k names ts = unexpected ts

abbrev pub open_task_at : Scope → List Token → Result TaskGroup Fault
open_task_at names [] = unexpected []
open_task_at names (t ∷ ts) = open_task_of t.kind names (t ∷ ts)

abbrev pub after_colon_of : Kind → List Token → List Token → Result (List Token) Fault
after_colon_of kind.Colon rest ts = Ok rest
after_colon_of k rest ts = unexpected ts

abbrev pub after_colon : List Token → Result (List Token) Fault
after_colon [] = unexpected []
after_colon (t ∷ ts) = after_colon_of t.kind ts (t ∷ ts)

-- behind `group`: nothing is done, but the name means a group from there on
abbrev pub group_at : Scope → List Token → Result (StmtTree × List Token) Fault
group_at names ts = do
  x ← free_name names ts
  g ← free_group names ts
  Ok (SkipTree, drop 1 ts)

-- behind `spawn`: `f(v, w)`, for which the function has a group
abbrev pub nameless_at : Scope → List Token → Result (StmtTree × List Token) Fault
nameless_at names ts = do
  g ← open_group (meaning_of NAMELESS names) ts
  run_at names (run.Spawn g) ts

-- behind `spawn`: `g: f(v, w)`
abbrev pub into_at : Scope → List Token → Result (StmtTree × List Token) Fault
into_at names ts = do
  g ← open_group_at names ts
  rest ← after_colon (drop 1 ts)
  run_at names (run.Spawn g) rest

-- behind `spawn`, where no task has a name
abbrev pub spawned_at : Scope → List Token → Result (StmtTree × List Token) Fault
spawned_at names ts = if is_open (drop 1 ts) then nameless_at names ts else into_at names ts

-- behind `cancel`
abbrev pub cancel_at : Scope → List Token → Result (StmtTree × List Token) Fault
cancel_at names ts = open_task_at names ts >>= λ g. Ok (CancelTree (group_number g), drop 1 ts)
