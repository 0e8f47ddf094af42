-- Parameters and bodies of functions.
use Rattle.std.specs.Prelude.{ℕ, zero, suc, ◌&&◌, ◌||◌, nat_lt, Bool, false, List, drop, Option, Some, None, Result, Ok, Err, if◌then◌else◌}
use Rattle.source_tokens.specs.declared.tokens.Token.{Token}
use Rattle.source_reader.specs.declared.faults.Fault.{Fault}
use Rattle.source_reader.specs.declared.faults.Wrong.TheVariants as wrong
use Rattle.source_reader.specs.declared.functions.TheConstants.{BODY_FUEL}
use Rattle.source_reader.specs.declared.layouts.Taken.{Taken}
use Rattle.source_reader.specs.declared.names.Meaning.TheVariants as meaning
use Rattle.source_reader.specs.declared.widths.TheConstants.{MOST_PARAMETERS}
use Rattle.source_reader.specs.Faults.{◌>>=◌, fault_at}
use Rattle.source_reader.specs.Layouts.{has_room, with_one, nothing_taken}
use Rattle.source_reader.specs.Lines.{after_comma, free_name}
use Rattle.source_reader.specs.Marks.{is_close}
use Rattle.source_reader.specs.Names.{Scope, WithName, number_after}
use Rattle.source_reader.specs.Nameless.{nameless_in, with_nameless}
use Rattle.source_reader.specs.Simple.{ReadStmt}
use Rattle.source_reader.specs.Statements.{Block, stmt_at}
use Rattle.source_reader.specs.Widths.{width_in}

-- The parameters of the function that the root runs have no width. The tokens begin at `:`.
abbrev pub unless_root : (is_root : Bool) → ℕ × List Token → List Token → Result (ℕ × List Token) Fault
unless_root root x ts = if root && nat_lt 0 x.0 then Err (fault_at (drop 1 ts) wrong.RootWidth) else Ok x

abbrev pub width_or : (is_root : Bool) → Option (ℕ × List Token) → List Token → Result (ℕ × List Token) Fault
width_or root None ts = Err (fault_at (drop 1 ts) wrong.NoWidth)
width_or root (Some x) ts = unless_root root x ts

-- behind the name of a parameter: its width, and the tokens after it
abbrev pub width_at : (is_root : Bool) → List Token → Result (ℕ × List Token) Fault
width_at root ts = width_or root (width_in ts) ts

-- One of the two numbers has room for a parameter, whose name is the first of the tokens.
abbrev pub with_parameter : Taken → (bits : ℕ) → List Token → Result Taken Fault
with_parameter t b ts = if has_room t.first b || has_room t.second b then Ok (with_one t b) else Err (fault_at ts wrong.NoRoom)

-- the body of a function, or that of a parallel loop
abbrev pub body_at : Scope → List Token → ReadStmt
body_at names ts = nameless_in names ts >>= λ t. stmt_at BODY_FUEL (with_nameless t names) (Block false) ts

-- behind a parameter
abbrev pub behind_parameter : (Scope → ℕ → Taken → List Token → ReadStmt) → Scope → (variable : ℕ) → Taken → List Token → ReadStmt
behind_parameter next names v t ts = if is_close ts then body_at names (drop 1 ts) else (after_comma ts >>= λ rest. next names v t rest)

abbrev pub one_parameter : (Scope → ℕ → Taken → List Token → ReadStmt) → (is_root : Bool) → Scope → (variable : ℕ) → Taken → List Token → ReadStmt
one_parameter next root names v t ts = do
  x ← free_name names ts
  b ← width_at root (drop 1 ts)
  taken ← with_parameter t b.0 ts
  behind_parameter next (WithName x (meaning.Variable v) names) (number_after v) taken b.1

-- so many parameters more at most, from that variable on, and the body
unfoldable pub parameters_from : ℕ → (is_root : Bool) → Scope → (variable : ℕ) → Taken → List Token → ReadStmt
parameters_from zero root names v t ts = Err (fault_at ts wrong.TooManyParameters)
parameters_from (suc left) root names v t ts = one_parameter (parameters_from left root) root names v t ts

-- behind `(`
abbrev pub inside_at : (is_root : Bool) → Scope → (variable : ℕ) → List Token → ReadStmt
inside_at root names v ts = if is_close ts then body_at names (drop 1 ts) else parameters_from MOST_PARAMETERS root names v nothing_taken ts
