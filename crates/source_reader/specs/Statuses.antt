-- `let x, s = wait g`: what a group or a task gives, and its status, which is 2 if it was cancelled, else 1.
use Rattle.std.specs.Prelude.{ℕ, List, [], ◌∷◌, drop, Option, Some, None, Result, Ok, Err, if◌then◌else◌}
use Rattle.source_tokens.specs.declared.tokens.Kind.{Kind}
use Rattle.source_tokens.specs.declared.tokens.Kind.TheVariants as kind
use Rattle.source_tokens.specs.declared.tokens.Token.{Token}
use Rattle.source_reader.specs.declared.faults.Fault.{Fault}
use Rattle.source_reader.specs.declared.faults.Wrong.TheVariants as wrong
use Rattle.source_reader.specs.declared.names.Meaning.{Meaning}
use Rattle.source_reader.specs.declared.names.Meaning.TheVariants as meaning
use Rattle.source_reader.specs.declared.names.Task.{Task}
use Rattle.source_reader.specs.declared.names.TaskGroup.{TaskGroup}
use Rattle.source_reader.specs.Faults.{◌>>=◌, fault_at}
use Rattle.source_reader.specs.Names.{Scope, WithName, meaning_of, new_number}
use Rattle.source_reader.specs.Lines.{after_set, free_name, name_in}
use Rattle.source_reader.specs.Marks.{unexpected}
use Rattle.source_reader.specs.Tasks.{group_number}
use Rattle.source_reader.specs.Trees.{StmtTree, Variable, ThenTree, AssignTree, WaitTree}
use Rattle.source_reader.specs.Widths.{is_comma}

abbrev pub group_in : Option Meaning → Option TaskGroup
group_in (Some (meaning.Task t)) = Some t.group
group_in m = None

abbrev pub group_named : Kind → Scope → Option TaskGroup
group_named (kind.Name x) names = group_in (meaning_of x names)
group_named k names = None

abbrev pub group_named_at : Scope → List Token → Option TaskGroup
group_named_at names [] = None
group_named_at names (t ∷ ts) = group_named t.kind names

abbrev pub group_awaited_of : Kind → Scope → (rest : List Token) → Option TaskGroup
group_awaited_of kind.Wait names rest = group_named_at names rest
group_awaited_of k names rest = None

-- the group of a task, or a group, of this block that was not waited for, if `wait` and its name are at the front
abbrev pub group_awaited : Scope → List Token → Option TaskGroup
group_awaited names [] = None
group_awaited names (t ∷ ts) = group_awaited_of t.kind names ts

abbrev pub first_name : List Token → Option ℕ
first_name [] = None
first_name (t ∷ ts) = name_in t.kind

-- behind `let`: the name of the second variable, if there is one
abbrev pub status_name : List Token → Option ℕ
status_name ts = if is_comma (drop 1 ts) then first_name (drop 1 (drop 1 ts)) else None

-- A wait whose total and status go to these variables. The value of a task goes to its own variable, too.
abbrev pub waited_with : (total status : ℕ) → Task → StmtTree
waited_with x s t =
    if t.is_group then WaitTree (Some x) (Some s) (group_number t.group)
    else ThenTree (WaitTree (Some t.variable) (Some s) (group_number t.group)) (AssignTree x (Variable t.variable))

-- The name is the first of the tokens.
abbrev pub status_of : (total status : ℕ) → Option Meaning → List Token → Result (StmtTree × List Token) Fault
status_of x s None ts = Err (fault_at ts wrong.UnknownName)
status_of x s (Some (meaning.Task t)) ts = Ok (waited_with x s t, drop 1 ts)
status_of x s (Some (meaning.OuterTask t)) ts = Err (fault_at ts wrong.WaitSkipped)
status_of x s (Some m) ts = Err (fault_at ts wrong.NoTask)

abbrev pub status_by : Kind → Scope → (total status : ℕ) → List Token → Result (StmtTree × List Token) Fault
status_by (kind.Name y) names x s ts = status_of x s (meaning_of y names) ts
status_by k names x s ts = unexpected ts

-- behind `wait`
abbrev pub awaited_with : Scope → (total status : ℕ) → List Token → Result (StmtTree × List Token) Fault
awaited_with names x s [] = unexpected []
awaited_with names x s (t ∷ ts) = status_by t.kind names x s (t ∷ ts)

abbrev pub after_wait_of : Kind → List Token → List Token → Result (List Token) Fault
after_wait_of kind.Wait rest ts = Ok rest
after_wait_of k rest ts = unexpected ts

abbrev pub after_wait : List Token → Result (List Token) Fault
after_wait [] = unexpected []
after_wait (t ∷ ts) = after_wait_of t.kind ts (t ∷ ts)

-- behind `let`, where two names stand before `=`
abbrev pub status_at : Scope → List Token → Result (StmtTree × List Token) Fault
status_at names ts = do
  x ← free_name names ts
  n ← new_number names ts
  y ← free_name (WithName x (meaning.Variable n) names) (drop 1 (drop 1 ts))
  s ← new_number (WithName x (meaning.Variable n) names) (drop 1 (drop 1 ts))
  from ← after_set (drop 1 (drop 1 (drop 1 ts)))
  task ← after_wait from
  awaited_with names n s task
