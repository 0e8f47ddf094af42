-- Tasks and groups that have names: which of them were not waited for, and the waits of what leaves them.
use Rattle.std.specs.Prelude.{ℕ, Bool, true, false, ◌||◌, List, Option, Some, None, is_none, Result, Ok, Err, if◌then◌else◌}
use Rattle.source_tokens.specs.declared.tokens.Token.{Token}
use Rattle.source_reader.specs.declared.faults.Fault.{Fault}
use Rattle.source_reader.specs.declared.faults.Wrong.TheVariants as wrong
use Rattle.source_reader.specs.declared.calls.TheConstants.{CALLS}
use Rattle.source_reader.specs.declared.names.Meaning.{Meaning}
use Rattle.source_reader.specs.declared.names.Meaning.TheVariants as meaning
use Rattle.source_reader.specs.declared.names.Task.{Task}
use Rattle.source_reader.specs.declared.names.TaskGroup.{TaskGroup}
use Rattle.source_reader.specs.declared.names.TaskGroup.TheVariants as task_group
use Rattle.source_reader.specs.declared.tasks.Reach.{Reach}
use Rattle.source_reader.specs.declared.tasks.Reach.TheVariants as reach
use Rattle.source_reader.specs.Faults.{fault_at}
use Rattle.source_reader.specs.Names.{Scope, Functions, WithName, WithInline, Waited, Inner, Gathering, Asked, is_same_group}
use Rattle.source_reader.specs.Trees.{StmtTree, ThenTree, WaitTree, SkipTree}

-- the number of a group; the last one is that of calls, too
abbrev pub group_number : TaskGroup → ℕ
group_number task_group.First = 1
group_number task_group.Second = 2
group_number task_group.Third = 3
group_number task_group.Fourth = CALLS

-- whether a look at tasks ends at the beginning of a block
abbrev pub ends_at : Reach → (is_loop : Bool) → Bool
ends_at reach.Block is_loop = true
ends_at reach.Loop is_loop = is_loop
ends_at reach.Function is_loop = false

abbrev pub first_task : Option Task → Option Task → Option Task
first_task (Some t) o = Some t
first_task None o = o

abbrev pub of_group : TaskGroup → Meaning → Option Task
of_group g (meaning.Task t) = if is_same_group t.group g then Some t else None
of_group g m = None

-- the task of that group which was not waited for, if one is there
abbrev pub task_in : Reach → TaskGroup → Scope → Option Task
task_in r g (Functions hs) = None
task_in r g (WithName x m others) = first_task (of_group g m) (task_in r g others)
task_in r g (WithInline x f others) = task_in r g others
task_in r g (Waited h others) = if is_same_group h g then None else task_in r g others
task_in r g (Inner is_loop others) = if ends_at r is_loop then None else task_in r g others
task_in r g (Gathering gathers others) = task_in r g others
task_in r g (Asked left b v others) = task_in r g others

-- the first of those, by their groups
abbrev pub pending : Reach → Scope → Option Task
pending r names =
    first_task (task_in r task_group.First names)
    (first_task (task_in r task_group.Second names)
    (first_task (task_in r task_group.Third names) (task_in r task_group.Fourth names)))

abbrev pub if_task : Option Task → Option Task
if_task (Some t) = if t.is_group then None else Some t
if_task None = None

-- the first of those that is no group
abbrev pub pending_task : Reach → Scope → Option Task
pending_task r names =
    first_task (if_task (task_in r task_group.First names))
    (first_task (if_task (task_in r task_group.Second names))
    (first_task (if_task (task_in r task_group.Third names)) (if_task (task_in r task_group.Fourth names))))

-- a group that no task has which was not waited for
abbrev pub free_group : Scope → List Token → Result TaskGroup Fault
free_group names ts =
    if is_none (task_in reach.Function task_group.First names) then Ok task_group.First
    else if is_none (task_in reach.Function task_group.Second names) then Ok task_group.Second
    else if is_none (task_in reach.Function task_group.Third names) then Ok task_group.Third
    else if is_none (task_in reach.Function task_group.Fourth names) then Ok task_group.Fourth
    else Err (fault_at ts wrong.NoGroup)

-- whether the innermost block is that of the function
abbrev pub is_outermost : Scope → Bool
is_outermost (Functions hs) = true
is_outermost (WithName x m others) = is_outermost others
is_outermost (WithInline x f others) = is_outermost others
is_outermost (Waited g others) = is_outermost others
is_outermost (Inner is_loop others) = false
is_outermost (Gathering g others) = false
is_outermost (Asked left b v others) = is_outermost others

-- a wait for a task, whose value goes to its variable
abbrev pub waited : Task → StmtTree
waited t = WaitTree (Some t.variable) None (group_number t.group)

-- a wait for a task whose value is dropped, and then the statement
abbrev pub dropped : Option Task → StmtTree → StmtTree
dropped None s = s
dropped (Some t) s = ThenTree (WaitTree None None (group_number t.group)) s

-- a statement that leaves so much, behind waits for the tasks there
abbrev pub leaving : Reach → Scope → StmtTree → StmtTree
leaving r names s =
    dropped (task_in r task_group.First names)
    (dropped (task_in r task_group.Second names)
    (dropped (task_in r task_group.Third names) (dropped (task_in r task_group.Fourth names) s)))

-- The end of a block, at the first of the tokens: none of its tasks is left, except in the function's own.
abbrev pub block_end : (left : Bool) → Scope → List Token → Result StmtTree Fault
block_end true names ts = Ok SkipTree
block_end false names ts = if is_outermost names || is_none (pending reach.Block names) then Ok (leaving reach.Block names SkipTree) else Err (fault_at ts wrong.TaskLeft)
