-- Values that are numbers before anything is computed.
use Rattle.std.specs.Prelude.{ℤ, pos, Bool, true, false, List, [], ◌∷◌, drop, Result, Ok, Err, if◌then◌else◌}
use Rattle.source_language.specs.Meaning.{is_nought}
use Rattle.source_tokens.specs.declared.tokens.Kind.{Kind}
use Rattle.source_tokens.specs.declared.tokens.Kind.TheVariants as kind
use Rattle.source_tokens.specs.declared.tokens.Token.{Token}
use Rattle.source_reader.specs.declared.faults.Fault.{Fault}
use Rattle.source_reader.specs.declared.faults.Wrong.TheVariants as wrong
use Rattle.source_reader.specs.Faults.{◌>>=◌, fault_at}
use Rattle.source_reader.specs.Trees.{ExprTree, ValueTree, Constant, Variable, SlotTree, WidthTree, TwoTree}
use Rattle.source_reader.specs.Joining.{number_in}
use Rattle.source_reader.specs.Names.{Scope}
use Rattle.source_reader.specs.Values.{whole_value}

abbrev pub constant_of : ExprTree → List Token → Result ℤ Fault
constant_of (Constant n) ts = Ok n
constant_of (Variable x) ts = Err (fault_at ts wrong.NoConstant)
constant_of SlotTree ts = Err (fault_at ts wrong.NoConstant)
constant_of WidthTree ts = Err (fault_at ts wrong.NoConstant)
constant_of (TwoTree o a b) ts = Err (fault_at ts wrong.NoConstant)

abbrev pub constant_in : ValueTree → List Token → Result ℤ Fault
constant_in v ts = do
  e ← number_in v ts
  constant_of e ts

abbrev pub is_step_of : Kind → Bool
is_step_of kind.Step = true
is_step_of k = false

abbrev pub is_step : List Token → Bool
is_step [] = false
is_step (t ∷ ts) = is_step_of t.kind

abbrev pub unless_nought : ℤ → List Token → Result ℤ Fault
unless_nought z ts = if is_nought z then Err (fault_at ts wrong.NoStep) else Ok z

-- behind `step`
abbrev pub step_in : Scope → List Token → Result (ℤ × List Token) Fault
step_in names ts = do
  v ← whole_value names ts
  z ← constant_in v.0 ts
  by ← unless_nought z ts
  Ok (by, v.1)

-- behind the ends of a loop that counts: by how much it does so
abbrev pub step_at : Scope → List Token → Result (ℤ × List Token) Fault
step_at names ts = if is_step ts then step_in names (drop 1 ts) else Ok (pos 1, ts)
