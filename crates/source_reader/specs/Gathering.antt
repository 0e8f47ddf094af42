-- The functions of parallel loops, behind those of the source, in the order of their words.
use Rattle.std.specs.Prelude.{ℕ, ◌||◌, nat_lt, List, [], ◌∷◌, ◌++◌, length, Option, Some, None, Result, Ok, Err, if◌then◌else◌}
use Rattle.source_tokens.specs.declared.tokens.Gathers.{Gathers}
use Rattle.source_tokens.specs.declared.tokens.Token.{Token}
use Rattle.source_reader.specs.declared.faults.Fault.{Fault}
use Rattle.source_reader.specs.declared.faults.Wrong.TheVariants as wrong
use Rattle.source_reader.specs.declared.functions.TheConstants.{FUNCTIONS}
use Rattle.source_reader.specs.declared.halving.TheConstants.{LOW, VARIABLES}
use Rattle.source_reader.specs.declared.names.Meaning.TheVariants as meaning
use Rattle.source_reader.specs.Bodies.{body_at}
use Rattle.source_reader.specs.Constants.{is_step_of}
use Rattle.source_reader.specs.Faults.{◌>>=◌, fault_at}
use Rattle.source_reader.specs.Functions.{larger, variables_of}
use Rattle.source_reader.specs.Halving.{gathered}
use Rattle.source_reader.specs.Headers.{gathers_of}
use Rattle.source_reader.specs.Lines.{free_name}
use Rattle.source_reader.specs.Names.{Scope, WithName, Gathering}
use Rattle.source_reader.specs.Ranges.{is_grain_of, is_begin, grain_at, distance_at}
use Rattle.source_reader.specs.Trees.{FunctionTree}

-- what follows the range: `step`, `grain`, or the block
abbrev pub head_end : List Token → List Token
head_end [] = []
head_end (t ∷ ts) = if (is_step_of t.kind || is_grain_of t.kind) || is_begin t.kind then t ∷ ts else head_end ts

-- The function of that number, behind its word. Its body sees the index, and what stands above all functions.
abbrev pub gathering_at : Gathers → Scope → (function : ℕ) → List Token → Result FunctionTree Fault
gathering_at g names p ts = do
  i ← free_name names ts
  by ← distance_at names (head_end ts)
  grain ← grain_at names by.1
  body ← body_at (Gathering g (WithName i (meaning.Counter LOW) names)) grain.1
  Ok (record { variables = larger VARIABLES (variables_of body.0); body = gathered g p grain.0 by.0 body.0 })

abbrev pub one_gathering : Scope → Option Gathers → List FunctionTree → (ts rest : List Token) → Result (List FunctionTree) Fault
one_gathering names None before ts rest = Ok before
one_gathering names (Some g) before ts rest =
    if nat_lt (length before) FUNCTIONS then (gathering_at g names (length before) rest >>= λ f. Ok (before ++ f ∷ [])) else Err (fault_at ts wrong.TooManyFunctions)

-- with those of all parallel loops in the tokens, behind the functions before
abbrev pub gatherings_from : Scope → List FunctionTree → List Token → Result (List FunctionTree) Fault
gatherings_from names before [] = Ok before
gatherings_from names before (t ∷ ts) = one_gathering names (gathers_of t.kind) before (t ∷ ts) ts >>= λ now. gatherings_from names now ts
