-- Statements and blocks.
use Rattle.std.specs.Prelude.{ℕ, zero, suc, Bool, true, false, List, [], ◌∷◌, drop, length, Option, Some, None, Result, Ok, Err, if◌then◌else◌}
use Rattle.source_tokens.specs.declared.tokens.Kind.{Kind}
use Rattle.source_tokens.specs.declared.tokens.Kind.TheVariants as kind
use Rattle.source_tokens.specs.declared.tokens.Token.{Token}
use Rattle.source_reader.specs.declared.faults.Fault.{Fault}
use Rattle.source_reader.specs.declared.faults.Wrong.TheVariants as wrong
use Rattle.source_reader.specs.Faults.{◌>>=◌, fault_at}
use Rattle.source_reader.specs.Trees.{SkipTree, ThenTree, IfTree, LoopTree, BreakTree, ContinueTree}
use Rattle.source_reader.specs.declared.names.Meaning.{Meaning}
use Rattle.source_reader.specs.declared.names.Meaning.TheVariants as meaning
use Rattle.source_reader.specs.declared.names.Task.{Task}
use Rattle.source_reader.specs.declared.tasks.Reach.TheVariants as reach
use Rattle.source_reader.specs.Names.{Scope, WithName, Waited, Inner, Asked, meaning_of, new_number}
use Rattle.source_reader.specs.Tasks.{free_group, waited, leaving, block_end}
use Rattle.source_reader.specs.Ahead.{next_wait, next_ask}
use Rattle.source_reader.specs.Givers.{giver_at}
use Rattle.source_reader.specs.Questions.{asked_again}
use Rattle.source_reader.specs.Lines.{leaves, after_begin, after_line_ends, ended, after_end, after_else, let_name, if_in_loop, is_if}
use Rattle.source_reader.specs.declared.calls.Run.TheVariants as run
use Rattle.source_reader.specs.Calls.{run_at, is_spawn}
use Rattle.source_reader.specs.Groups.{gathered, group_at, spawned_at, cancel_at}
use Rattle.source_reader.specs.Simple.{ReadStmt, given_at, condition_at, count_at, let_at, assigned_at, wait_at, sync_at, region_at}
use Rattle.source_reader.specs.Counting.{counting_loop}
use Rattle.source_reader.specs.Giving.{group_given, behind_group, give_at, return_in}
use Rattle.source_reader.specs.Marks.{unexpected}
use Rattle.source_reader.specs.Statuses.{status_name}

-- What is read: `{ .. }`; what follows `{`, where what comes may never be reached; a statement; an `if` behind `else`; or what may follow the block of an
-- `if`. Each says whether there is a loop around it.
pub data Part : Type 0 where
  Block : (in_loop : Bool) → Part
  Rest : (in_loop left : Bool) → Part
  Line : (in_loop : Bool) → Part
  Branch : (in_loop : Bool) → Part
  Otherwise : (in_loop : Bool) → Part

abbrev pub Reader : Type 0
Reader = Scope → Part → List Token → ReadStmt

-- what a new variable stands for, by what follows `let x =`
abbrev pub let_meaning : Scope → ℕ → List Token → Result Meaning Fault
let_meaning names n ts = if is_spawn ts then (free_group names ts >>= λ g. Ok (meaning.Task (record { variable = n; group = g; is_group = false }))) else Ok (meaning.Variable n)

abbrev pub is_group_of : Kind → Bool
is_group_of kind.Group = true
is_group_of k = false

abbrev pub is_group : List Token → Bool
is_group [] = false
is_group (t ∷ ts) = is_group_of t.kind

-- what the name means that the statement at the front declares
abbrev pub declared_meaning : Scope → ℕ → List Token → Result Meaning Fault
declared_meaning names n ts =
    if is_group ts then (free_group names ts >>= λ g. Ok (meaning.Task (record { variable = n; group = g; is_group = true })))
    else let_meaning names n (drop 1 (drop 1 (drop 1 ts)))

abbrev pub declared_in : Scope → List Token → Result Meaning Fault
declared_in names ts = new_number names ts >>= λ n. declared_meaning names n ts

abbrev pub with_status : Option ℕ → Scope → List Token → Result Scope Fault
with_status None names ts = Ok names
with_status (Some y) names ts = new_number names ts >>= λ n. Ok (WithName y (meaning.Variable n) names)

-- the names behind a statement, which begins with the first of the tokens, and those it declares
abbrev pub with_name : Option ℕ → Scope → List Token → Result Scope Fault
with_name None names ts = Ok names
with_name (Some x) names ts = do
  m ← declared_in names ts
  with_status (status_name (drop 1 ts)) (WithName x m names) ts

abbrev pub line_and_rest : Reader → (names behind : Scope) → Bool → List Token → ReadStmt
line_and_rest next names behind in_loop ts = do
  first ← next names (Line in_loop) ts
  rest ← ended first.1
  inner ← with_name (let_name ts) behind ts
  others ← next inner (Rest in_loop (leaves first.0)) rest
  Ok (ThenTree first.0 others.0, others.1)

-- a wait for a task, and then the same line, which sees what the task gave
abbrev pub wait_and_rest : Reader → Scope → Bool → Task → List Token → ReadStmt
wait_and_rest next names in_loop t ts = do
  others ← next (Waited t.group names) (Rest in_loop false) ts
  Ok (ThenTree (waited t) others.0, others.1)

-- What gives a value goes to one more variable, and then comes the same line, where that stands for it.
abbrev pub ask_and_rest : Reader → Scope → Bool → (asked ts : List Token) → ReadStmt
ask_and_rest next names in_loop asked ts = do
  n ← new_number names ts
  c ← given_at names n asked
  others ← next (Asked (length asked) (length c.1) n (behind_group (group_given (giver_at names asked)) names)) (Rest in_loop false) ts
  Ok (ThenTree c.0 others.0, others.1)

abbrev pub ask_or_line : Reader → Scope → Bool → Option (List Token) → List Token → ReadStmt
ask_or_line next names in_loop None ts = line_and_rest next names (behind_group (gathered names ts) names) in_loop ts
ask_or_line next names in_loop (Some asked) ts = ask_and_rest next names in_loop asked ts

abbrev pub first_line : Reader → Scope → Bool → Option Task → List Token → ReadStmt
first_line next names in_loop None ts = ask_or_line next names in_loop (next_ask names ts) ts
first_line next names in_loop (Some t) ts = wait_and_rest next names in_loop t ts

abbrev pub rest_of : Reader → Scope → (in_loop left : Bool) → Option (List Token) → List Token → ReadStmt
rest_of next names in_loop left (Some after) ts = block_end left names ts >>= λ s. Ok (s, after)
rest_of next names in_loop true None ts = Err (fault_at ts wrong.NeverReached)
rest_of next names in_loop false None ts = first_line next names in_loop (next_wait names ts) ts

-- What the condition asks was asked before the loop, and is asked again behind each turn.
abbrev pub while_at : Reader → Scope → List Token → ReadStmt
while_at next names ts = do
  c ← condition_at names ts
  b ← next (Inner true names) (Block true) c.1
  Ok (LoopTree c.0 b.0 (asked_again names ts), b.1)

-- behind `for`
abbrev pub for_at : Reader → Scope → List Token → ReadStmt
for_at next names ts = do
  c ← count_at names ts
  b ← next (Inner true (WithName c.0.name (meaning.Counter c.0.index) names)) (Block true) c.1
  Ok (counting_loop c.0.index c.0.end c.0.by c.0.low c.0.high b.0, b.1)

abbrev pub if_at : Reader → Scope → Bool → List Token → ReadStmt
if_at next names in_loop ts = do
  c ← condition_at names ts
  a ← next (Inner false names) (Block in_loop) c.1
  b ← next names (Otherwise in_loop) a.1
  Ok (IfTree c.0 a.0 b.0, b.1)

abbrev pub line_of : Reader → Scope → Bool → Kind → List Token → List Token → ReadStmt
line_of next names in_loop kind.Let rest ts = let_at names rest
line_of next names in_loop (kind.Name x) rest ts = assigned_at names (meaning_of x names) ts rest
line_of next names in_loop kind.Return rest ts = return_in names ts rest
line_of next names in_loop kind.Give rest ts = give_at names ts rest
line_of next names in_loop kind.Call rest ts = run_at names (run.Call None) rest
line_of next names in_loop kind.Isolate rest ts = region_at names ts
line_of next names in_loop kind.Post rest ts = run_at names run.Post rest
line_of next names in_loop kind.Wait rest ts = wait_at names rest
line_of next names in_loop kind.Group rest ts = group_at names rest
line_of next names in_loop kind.Spawn rest ts = spawned_at names rest
line_of next names in_loop kind.Cancel rest ts = cancel_at names rest
line_of next names in_loop kind.Sync rest ts = sync_at names ts rest
line_of next names in_loop kind.Break rest ts = if_in_loop in_loop (leaving reach.Loop names (BreakTree 0)) rest ts
line_of next names in_loop kind.Continue rest ts = if_in_loop in_loop (leaving reach.Loop names (ContinueTree 0)) rest ts
line_of next names in_loop kind.While rest ts = while_at next names rest
line_of next names in_loop kind.For rest ts = for_at next names rest
line_of next names in_loop kind.If rest ts = if_at next names in_loop rest
line_of next names in_loop k rest ts = unexpected ts

abbrev pub line_at : Reader → Scope → Bool → List Token → ReadStmt
line_at next names in_loop [] = unexpected []
line_at next names in_loop (t ∷ ts) = line_of next names in_loop t.kind ts (t ∷ ts)

-- behind `else`
abbrev pub else_at : Reader → Scope → Bool → List Token → ReadStmt
else_at next names in_loop ts = next (Inner false names) (if is_if ts then Branch in_loop else Block in_loop) ts

-- What the condition asks is asked before it, if it is reached.
abbrev pub branch_of : Reader → Scope → Bool → Option (List Token) → List Token → ReadStmt
branch_of next names in_loop None ts = next names (Line in_loop) ts
branch_of next names in_loop (Some asked) ts = do
  n ← new_number names ts
  c ← given_at names n asked
  s ← next (Asked (length asked) (length c.1) n names) (Branch in_loop) ts
  Ok (ThenTree c.0 s.0, s.1)

abbrev pub otherwise_of : Reader → Scope → Bool → Option (List Token) → List Token → ReadStmt
otherwise_of next names in_loop (Some rest) ts = else_at next names in_loop rest
otherwise_of next names in_loop None ts = Ok (SkipTree, ts)

-- behind the block of an `if`, where `else` may stand on a line of its own
abbrev pub otherwise_at : Reader → Scope → Bool → List Token → ReadStmt
otherwise_at next names in_loop ts = otherwise_of next names in_loop (after_else (after_line_ends ts)) ts

abbrev pub stmt_step : Reader → Scope → Part → List Token → ReadStmt
stmt_step next names (Block in_loop) ts = after_begin ts >>= λ inside. next names (Rest in_loop false) inside
stmt_step next names (Rest in_loop left) ts = rest_of next names in_loop left (after_end (after_line_ends ts)) (after_line_ends ts)
stmt_step next names (Line in_loop) ts = line_at next names in_loop ts
stmt_step next names (Branch in_loop) ts = branch_of next names in_loop (next_ask names ts) ts
stmt_step next names (Otherwise in_loop) ts = otherwise_at next names in_loop ts

-- The number bounds how deep blocks are nested and how many statements there are.
unfoldable pub stmt_at : ℕ → Reader
stmt_at zero names p ts = Err (fault_at ts wrong.TooLong)
stmt_at (suc n) names p ts = stmt_step (stmt_at n) names p ts
