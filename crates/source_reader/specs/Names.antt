-- What a place sees: names with their meanings, the last one first, and the functions of the source.
use Rattle.std.specs.Prelude.{ℕ, Bool, true, false, List, map, Option, Some, None, Result, Ok, Err, ◌+◌, ◌==◌, ◌||◌, nat_lt, if◌then◌else◌}
use Rattle.std.specs.Option.{option_map}
use Rattle.source_tokens.specs.declared.tokens.Gathers.{Gathers}
use Rattle.source_tokens.specs.declared.tokens.Token.{Token}
use Rattle.source_reader.specs.declared.halving.TheConstants.{OTHER}
use Rattle.source_reader.specs.declared.faults.Fault.{Fault}
use Rattle.source_reader.specs.declared.faults.Wrong.TheVariants as wrong
use Rattle.source_reader.specs.Faults.{fault_at}
use Rattle.source_reader.specs.declared.names.Meaning.{Meaning}
use Rattle.source_reader.specs.declared.names.Meaning.TheVariants as meaning
use Rattle.source_reader.specs.declared.names.Task.{Task}
use Rattle.source_reader.specs.declared.names.TaskGroup.{TaskGroup}
use Rattle.source_reader.specs.declared.names.TaskGroup.TheVariants as task_group
use Rattle.source_reader.specs.declared.names.Names.{Names}
use Rattle.source_reader.specs.declared.names.Names.TheVariants as names
use Rattle.source_reader.specs.Trees.{HeaderTree, InlineTree, header_tree_of, inline_tree_of}

-- `Waited` stands behind a wait for the task of a group, and `Inner` is the beginning of a block inside the function's own.
-- `Gathering` is the beginning of the body of a parallel loop, which is its function's own.
-- `Asked` stands behind what gives a value inside another one: how many tokens are left where it begins, and behind it, and the variable that has its value.
pub data Scope : Type 0 where
  Functions : List HeaderTree → Scope
  WithName : ℕ → Meaning → Scope → Scope
  WithInline : ℕ → InlineTree → Scope → Scope
  Waited : TaskGroup → Scope → Scope
  Inner : (is_loop : Bool) → Scope → Scope
  Gathering : Gathers → Scope → Scope
  Asked : (left behind variable : ℕ) → Scope → Scope

abbrev pub names_of : Names → Scope
names_of (names.Functions hs) = Functions (map header_tree_of hs.now)
names_of (names.Name' x m p others) = WithName x m (names_of others)
names_of (names.Inline' x f p others) = WithInline x (inline_tree_of f.now) (names_of others)
names_of (names.Waited' g p others) = Waited g (names_of others)
names_of (names.Inner' is_loop p others) = Inner is_loop (names_of others)
names_of (names.Gathering' g p others) = Gathering g (names_of others)
names_of (names.Asked' left behind v p others) = Asked left behind v (names_of others)

abbrev pub is_same_group : TaskGroup → TaskGroup → Bool
is_same_group task_group.First task_group.First = true
is_same_group task_group.Second task_group.Second = true
is_same_group task_group.Third task_group.Third = true
is_same_group task_group.Fourth task_group.Fourth = true
is_same_group g h = false

-- what a name means behind a wait for its task; a group is waited for once
abbrev pub behind_wait : Task → Meaning
behind_wait t = if t.is_group then meaning.Closed t.variable else meaning.Awaited t.variable

-- what a name means behind a wait for the task of that group
abbrev pub awaited : TaskGroup → Meaning → Meaning
awaited g (meaning.Task t) = if is_same_group t.group g then behind_wait t else meaning.Task t
awaited g m = m

-- what a name of a block means in a block inside it
abbrev pub outer : Meaning → Meaning
outer (meaning.Task t) = meaning.OuterTask t
outer m = m

abbrev pub meaning_of : ℕ → Scope → Option Meaning
meaning_of x (Functions hs) = None
meaning_of x (WithName y m others) = if y == x then Some m else meaning_of x others
meaning_of x (WithInline y f others) = if y == x then Some meaning.Inline else meaning_of x others
meaning_of x (Waited g others) = option_map (awaited g) (meaning_of x others)
meaning_of x (Inner is_loop others) = option_map outer (meaning_of x others)
meaning_of x (Gathering g others) = meaning_of x others
meaning_of x (Asked left b v others) = meaning_of x others

-- whether a name is that of a constant, a cell or an inline function
abbrev pub is_item : Option Meaning → Bool
is_item (Some (meaning.Constant z)) = true
is_item (Some (meaning.Cell k)) = true
is_item (Some meaning.Inline) = true
is_item m = false

-- Whether a name can't be declared: the innermost block has it, or what no block hides.
abbrev pub is_taken : ℕ → Scope → Bool
is_taken x (Functions hs) = false
is_taken x (WithName y m others) = y == x || is_taken x others
is_taken x (WithInline y f others) = y == x || is_taken x others
is_taken x (Waited g others) = is_taken x others
is_taken x (Inner is_loop others) = is_item (meaning_of x others)
is_taken x (Gathering g others) = is_taken x others
is_taken x (Asked left b v others) = is_taken x others

-- the inline function of that name
abbrev pub inline_of : ℕ → Scope → Option InlineTree
inline_of x (Functions hs) = None
inline_of x (WithName y m others) = inline_of x others
inline_of x (WithInline y f others) = if y == x then Some f else inline_of x others
inline_of x (Waited g others) = inline_of x others
inline_of x (Inner is_loop others) = inline_of x others
inline_of x (Gathering g others) = inline_of x others
inline_of x (Asked left b v others) = inline_of x others

-- the functions of the source, in its order
abbrev pub functions_in : Scope → List HeaderTree
functions_in (Functions hs) = hs
functions_in (WithName x m others) = functions_in others
functions_in (WithInline x f others) = functions_in others
functions_in (Waited g others) = functions_in others
functions_in (Inner is_loop others) = functions_in others
functions_in (Gathering g others) = functions_in others
functions_in (Asked left b v others) = functions_in others

-- what was asked where so many tokens are left: its variable, and how many are left behind it
abbrev pub asked_in : (left : ℕ) → Scope → Option (ℕ × ℕ)
asked_in n (Functions hs) = None
asked_in n (WithName x m others) = asked_in n others
asked_in n (WithInline x f others) = asked_in n others
asked_in n (Waited g others) = asked_in n others
asked_in n (Inner is_loop others) = asked_in n others
asked_in n (Gathering g others) = asked_in n others
asked_in n (Asked left b v others) = if left == n then Some (v, b) else asked_in n others

abbrev pub number_after : ℕ → ℕ
number_after x = if nat_lt x 255 then x + 1 else 255

-- the variable behind that one, if a function may have so many
abbrev pub number_behind : ℕ → List Token → Result ℕ Fault
number_behind v ts = if nat_lt v 240 then Ok (v + 1) else Err (fault_at ts wrong.TooManyNames)

-- A group has no variable of its own.
abbrev pub number_past : Task → List Token → Result ℕ Fault
number_past t ts = if t.is_group then Ok t.variable else number_behind t.variable ts

-- The end of a loop that counts is the variable behind its index. Before constants, cells and inline functions there are no variables.
abbrev pub number_next : Meaning → List Token → Result ℕ Fault
number_next (meaning.Variable v) ts = number_behind v ts
number_next (meaning.Counter v) ts = number_behind (number_after v) ts
number_next (meaning.Constant z) ts = Ok 0
number_next (meaning.Task t) ts = number_past t ts
number_next (meaning.Awaited v) ts = number_behind v ts
number_next (meaning.Closed v) ts = Ok v
number_next (meaning.OuterTask t) ts = number_past t ts
number_next (meaning.Cell k) ts = Ok 0
number_next meaning.Inline ts = Ok 0

-- The number of one more variable. The function of a parallel loop has three before its body.
abbrev pub new_number : Scope → List Token → Result ℕ Fault
new_number (Functions hs) ts = Ok 0
new_number (WithName x m others) ts = number_next m ts
new_number (WithInline x f others) ts = Ok 0
new_number (Waited g others) ts = new_number others ts
new_number (Inner is_loop others) ts = new_number others ts
new_number (Gathering g others) ts = Ok OTHER
new_number (Asked left b v others) ts = number_behind v ts
