-- What leaves the body of a parallel loop, for one number of its range.
use Rattle.std.specs.Prelude.{ℕ, ◌+◌, nat_lt, pos, Bool, true, List, Option, Some, None, is_none, Result, Ok, Err, if◌then◌else◌}
use Rattle.source_tokens.specs.declared.tokens.Gathers.{Gathers}
use Rattle.source_tokens.specs.declared.tokens.Gathers.TheVariants as gathers
use Rattle.source_tokens.specs.declared.tokens.Token.{Token}
use Rattle.source_reader.specs.declared.faults.Fault.{Fault}
use Rattle.source_reader.specs.declared.faults.Wrong.TheVariants as wrong
use Rattle.source_reader.specs.declared.givers.Giver.{Giver}
use Rattle.source_reader.specs.declared.givers.Giver.TheVariants as giver
use Rattle.source_reader.specs.declared.names.TaskGroup.{TaskGroup}
use Rattle.source_reader.specs.declared.tasks.Reach.TheVariants as reach
use Rattle.source_reader.specs.Faults.{◌>>=◌, fault_at}
use Rattle.source_reader.specs.Givers.{giver_at, given_by}
use Rattle.source_reader.specs.Halving.{taken}
use Rattle.source_reader.specs.Names.{Scope, Functions, WithName, WithInline, Waited, Inner, Gathering, Asked, new_number}
use Rattle.source_reader.specs.Returns.{is_there, return_at}
use Rattle.source_reader.specs.Simple.{ReadStmt}
use Rattle.source_reader.specs.Tasks.{leaving}
use Rattle.source_reader.specs.Trees.{ExprTree, ValueTree, StmtTree, Constant, Variable, NumberTree, TruthTree, ThenTree, AssignTree, IfTree, ContinueTree}
use Rattle.source_reader.specs.Values.{whole_value}

-- the parallel loop whose body this is
abbrev pub gathers_in : Scope → Option Gathers
gathers_in (Functions hs) = None
gathers_in (WithName x m others) = gathers_in others
gathers_in (WithInline x f others) = gathers_in others
gathers_in (Waited g others) = gathers_in others
gathers_in (Inner is_loop others) = gathers_in others
gathers_in (Gathering g others) = Some g
gathers_in (Asked left b v others) = gathers_in others

abbrev pub one_loop_more : ℕ → List Token → Result ℕ Fault
one_loop_more k ts = if nat_lt k 240 then Ok (k + 1) else Err (fault_at ts wrong.TooLong)

-- how many loops of this body are around the place
abbrev pub loops_in : Scope → List Token → Result ℕ Fault
loops_in (Functions hs) ts = Ok 0
loops_in (WithName x m others) ts = loops_in others ts
loops_in (WithInline x f others) ts = loops_in others ts
loops_in (Waited g others) ts = loops_in others ts
loops_in (Inner is_loop others) ts = loops_in others ts >>= λ k. if is_loop then one_loop_more k ts else Ok k
loops_in (Gathering g others) ts = Ok 0
loops_in (Asked left b v others) ts = loops_in others ts

-- the group that is waited for, if that gives the value
abbrev pub group_given : Option Giver → Option TaskGroup
group_given (Some (giver.Wait g)) = Some g
group_given o = None

-- what is seen behind a wait for a group, if there is one
abbrev pub behind_group : Option TaskGroup → Scope → Scope
behind_group None names = names
behind_group (Some g) names = Waited g names

-- Whether the total takes a number as it stands. For a sum it is read once, for the others twice.
abbrev pub takes : Gathers → ExprTree → Bool
takes gathers.Sum e = true
takes gathers.Least e = is_there e
takes gathers.Greatest e = is_there e

-- The total with a number more, which goes to one more variable if that is needed.
abbrev pub number_taken : Gathers → Scope → ExprTree → List Token → Result StmtTree Fault
number_taken g names e ts = if takes g e then Ok (taken g e) else (new_number names ts >>= λ n. Ok (ThenTree (AssignTree n e) (taken g (Variable n))))

-- A condition is 1 or 0.
abbrev pub value_taken : Gathers → Scope → ValueTree → List Token → Result StmtTree Fault
value_taken g names (NumberTree e) ts = number_taken g names e ts
value_taken g names (TruthTree t) ts = Ok (IfTree t (taken g (Constant (pos 1))) (taken g (Constant (pos 0))))

abbrev pub taken_from : Option Giver → Gathers → Scope → List Token → ReadStmt
taken_from (Some d) g names ts = do
  n ← new_number names ts
  c ← given_by d names n ts
  Ok (ThenTree c.0 (taken g (Variable n)), c.1)
taken_from None g names ts = do
  v ← whole_value names ts
  s ← value_taken g names v.0 ts
  Ok (s, v.1)

-- Behind `give`: the total with the value, tasks that were not waited for are waited for, and the next number comes.
abbrev pub give_in : Gathers → Scope → List Token → ReadStmt
give_in g names ts = do
  k ← loops_in names ts
  s ← taken_from (giver_at names ts) g names ts
  Ok (ThenTree s.0 (leaving reach.Function (behind_group (group_given (giver_at names ts)) names) (ContinueTree k)), s.1)

abbrev pub give_of : Option Gathers → Scope → (ts rest : List Token) → ReadStmt
give_of None names ts rest = Err (fault_at ts wrong.NotGathered)
give_of (Some g) names ts rest = give_in g names rest

-- `give`, which is the first of the tokens
abbrev pub give_at : Scope → (ts rest : List Token) → ReadStmt
give_at names ts rest = give_of (gathers_in names) names ts rest

-- `return`, which is the first of the tokens: not in the body of a parallel loop
abbrev pub return_in : Scope → (ts rest : List Token) → ReadStmt
return_in names ts rest = if is_none (gathers_in names) then return_at names rest else Err (fault_at ts wrong.GatheringReturn)
