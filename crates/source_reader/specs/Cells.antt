-- Cells: what is asked of them, and what is stored.
use Rattle.std.specs.Prelude.{ℕ, pos, List, [], ◌∷◌, Result, Ok}
use Rattle.source_language.specs.declared.syntax.Question.{Question}
use Rattle.source_language.specs.declared.syntax.Question.TheVariants as question
use Rattle.source_tokens.specs.declared.tokens.Kind.{Kind}
use Rattle.source_tokens.specs.declared.tokens.Kind.TheVariants as kind
use Rattle.source_tokens.specs.declared.tokens.Part.{Part}
use Rattle.source_tokens.specs.declared.tokens.Part.TheVariants as part
use Rattle.source_tokens.specs.declared.tokens.Token.{Token}
use Rattle.source_reader.specs.declared.faults.Fault.{Fault}
use Rattle.source_reader.specs.Faults.{◌>>=◌}
use Rattle.source_reader.specs.Joining.{operation}
use Rattle.source_reader.specs.Names.{Scope, new_number}
use Rattle.source_reader.specs.Trees.{ValueTree, StmtTree, Constant, Variable, NumberTree, TruthTree, ThenTree, IfTree, ReadTree, StoreTree}
use Rattle.source_reader.specs.Values.{whole_value}
use Rattle.source_reader.specs.Marks.{unexpected}

abbrev pub question_of : Part → (key : ℕ) → Question
question_of part.Local k = question.Cell k
question_of part.Sum k = question.CellSum k
question_of part.Count k = question.CellCount k

abbrev pub after_local_of : Kind → List Token → List Token → Result (List Token) Fault
after_local_of (kind.Part part.Local) rest ts = Ok rest
after_local_of k rest ts = unexpected ts

abbrev pub after_local : List Token → Result (List Token) Fault
after_local [] = unexpected []
after_local (t ∷ ts) = after_local_of t.kind ts (t ∷ ts)

-- A comparison is 1 or 0.
abbrev pub stored : (key : ℕ) → ValueTree → StmtTree
stored k (NumberTree e) = StoreTree k e
stored k (TruthTree t) = IfTree t (StoreTree k (Constant (pos 1))) (StoreTree k (Constant (pos 0)))

-- Behind `=`, `+=` and the like. What the cell is before goes to one more variable, and then the value is computed.
abbrev pub stored_of : Kind → Scope → (key : ℕ) → (rest ts : List Token) → Result (StmtTree × List Token) Fault
stored_of kind.Set names k rest ts = do
  v ← whole_value names rest
  Ok (stored k v.0, v.1)
stored_of (kind.Update op) names k rest ts = do
  n ← new_number names ts
  v ← whole_value names rest
  e ← operation op (NumberTree (Variable n)) v.0 ts
  Ok (ThenTree (ReadTree n (question.Cell k)) (StoreTree k e), v.1)
stored_of _ names k rest ts = unexpected ts

abbrev pub stored_at : Scope → (key : ℕ) → List Token → Result (StmtTree × List Token) Fault
stored_at names k [] = unexpected []
stored_at names k (t ∷ ts) = stored_of t.kind names k ts (t ∷ ts)

-- behind the name of a cell
abbrev pub store_at : Scope → (key : ℕ) → List Token → Result (StmtTree × List Token) Fault
store_at names k ts = do
  sign ← after_local ts
  stored_at names k sign
