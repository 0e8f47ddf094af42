-- Tasks that were waited for, and those that were not.
use Rattle.std.specs.Prelude.{ℕ, Bool, false, not, List, [], ◌∷◌, Option, Some, None, Result, Ok, Err, if◌then◌else◌}
use Rattle.source_tokens.specs.declared.tokens.Kind.{Kind}
use Rattle.source_tokens.specs.declared.tokens.Kind.TheVariants as kind
use Rattle.source_tokens.specs.declared.tokens.Token.{Token}
use Rattle.source_reader.specs.declared.faults.Fault.{Fault}
use Rattle.source_reader.specs.declared.faults.Wrong.TheVariants as wrong
use Rattle.source_reader.specs.declared.names.Meaning.{Meaning}
use Rattle.source_reader.specs.declared.names.Meaning.TheVariants as meaning
use Rattle.source_reader.specs.declared.names.Task.{Task}
use Rattle.source_reader.specs.Faults.{fault_at}
use Rattle.source_reader.specs.Names.{Scope, meaning_of}
use Rattle.source_reader.specs.Tasks.{if_task}

-- the task of the name at the front, if it may be waited for before the line
abbrev pub named_task : Option Meaning → Option Task
named_task (Some (meaning.Task t)) = if_task (Some t)
named_task m = None

abbrev pub is_unread : Option Meaning → Bool
is_unread (Some (meaning.Task t)) = not t.is_group
is_unread (Some (meaning.OuterTask t)) = not t.is_group
is_unread m = false

abbrev pub task_of : Kind → Scope → Option Task
task_of (kind.Name x) names = named_task (meaning_of x names)
task_of k names = None

abbrev pub task_at : Scope → List Token → Option Task
task_at names [] = None
task_at names (t ∷ ts) = task_of t.kind names

-- The variable of a task, whose name is the first of the tokens. The wait was done before the statement, unless it may not be done here.
abbrev pub awaited_variable : Meaning → List Token → Result ℕ Fault
awaited_variable (meaning.Awaited v) ts = Ok v
awaited_variable (meaning.Task t) ts = Err (fault_at ts (if t.is_group then wrong.GroupValue else wrong.WaitSkipped))
awaited_variable (meaning.OuterTask t) ts = Err (fault_at ts wrong.WaitSkipped)
awaited_variable m ts = Err (fault_at ts wrong.NoTask)

abbrev pub awaited_named : Option Meaning → List Token → Result ℕ Fault
awaited_named None ts = Err (fault_at ts wrong.UnknownName)
awaited_named (Some m) ts = awaited_variable m ts

abbrev pub awaited_of : Kind → Scope → List Token → Result ℕ Fault
awaited_of (kind.Name x) names ts = awaited_named (meaning_of x names) ts
awaited_of k names ts = Err (fault_at ts wrong.Unexpected)

-- behind `wait`
abbrev pub awaited_at : Scope → List Token → Result ℕ Fault
awaited_at names [] = Err (fault_at [] wrong.Unexpected)
awaited_at names (t ∷ ts) = awaited_of t.kind names (t ∷ ts)
