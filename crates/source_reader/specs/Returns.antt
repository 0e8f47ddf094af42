-- Statements that return.
use Rattle.std.specs.Prelude.{ℕ, pos, Bool, true, false, ◌||◌, List, [], ◌∷◌, Option, Some, None, is_none, Result, Ok, if◌then◌else◌}
use Rattle.source_tokens.specs.declared.tokens.Token.{Token}
use Rattle.source_reader.specs.declared.faults.Fault.{Fault}
use Rattle.source_reader.specs.declared.tasks.Reach.TheVariants as reach
use Rattle.source_reader.specs.Faults.{◌>>=◌}
use Rattle.source_reader.specs.Trees.{ExprTree, ValueTree, StmtTree, Constant, Variable, NumberTree, TruthTree, ThenTree, ReturnTree}
use Rattle.source_reader.specs.Names.{Scope, Waited, new_number}
use Rattle.source_reader.specs.Tasks.{pending, leaving}
use Rattle.source_reader.specs.Values.{whole_value}
use Rattle.source_reader.specs.declared.givers.Giver.{Giver}
use Rattle.source_reader.specs.declared.givers.Giver.TheVariants as giver
use Rattle.source_reader.specs.Givers.{giver_at, given_by}
use Rattle.source_reader.specs.Lines.{assigned, returned, is_line_end, is_end}
use Rattle.source_reader.specs.Simple.{ReadStmt}
use Rattle.source_reader.specs.Marks.{unexpected}

-- whether nothing computes it
abbrev pub is_there : ExprTree → Bool
is_there (Constant z) = true
is_there (Variable x) = true
is_there e = false

-- whether a value is the same behind waits, with nothing to keep it
abbrev pub stays : ValueTree → Bool
stays (NumberTree e) = is_there e
stays (TruthTree t) = false

-- A variable is returned: its value is there before the waits for tasks.
abbrev pub variable_returned : Scope → ℕ → StmtTree
variable_returned names n = leaving reach.Function names (ReturnTree (Variable n))

-- One more variable has a value that is returned while a task was not waited for.
abbrev pub kept_returned : Scope → ValueTree → List Token → Result StmtTree Fault
kept_returned names v ts = do
  n ← new_number names ts
  Ok (ThenTree (assigned n v) (variable_returned names n))

abbrev pub returned_from : Scope → ValueTree → List Token → Result StmtTree Fault
returned_from names v ts =
    if is_none (pending reach.Function names) then Ok (returned v)
    else if stays v then Ok (leaving reach.Function names (returned v))
    else kept_returned names v ts

abbrev pub value_returned : Scope → List Token → ReadStmt
value_returned names ts = do
  v ← whole_value names ts
  s ← returned_from names v.0 ts
  Ok (s, v.1)

-- what is seen behind it
abbrev pub behind : Giver → Scope → Scope
behind (giver.Wait g) names = Waited g names
behind g names = names

-- The value is that of one more variable.
abbrev pub returned_by : Giver → Scope → List Token → ReadStmt
returned_by g names ts = do
  n ← new_number names ts
  c ← given_by g names n ts
  Ok (ThenTree c.0 (variable_returned (behind g names) n), c.1)

abbrev pub returned_if : Option Giver → Scope → List Token → ReadStmt
returned_if (Some g) names ts = returned_by g names ts
returned_if None names ts = value_returned names ts

abbrev pub something_returned : Scope → List Token → ReadStmt
something_returned names ts = returned_if (giver_at names ts) names ts

-- Behind `return`. Tasks that were not waited for are waited for, and their values are dropped.
abbrev pub return_at : Scope → List Token → ReadStmt
return_at names [] = unexpected []
return_at names (t ∷ ts) = if is_line_end t.kind || is_end t.kind then Ok (leaving reach.Function names (ReturnTree (Constant (pos 0))), t ∷ ts) else something_returned names (t ∷ ts)
