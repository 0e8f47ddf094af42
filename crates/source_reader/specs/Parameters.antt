-- Inline functions that are declared.
use Rattle.std.specs.Prelude.{ℕ, zero, suc, List, [], ◌∷◌, drop, Result, Ok, Err, if◌then◌else◌}
use Rattle.source_tokens.specs.declared.tokens.Kind.{Kind}
use Rattle.source_tokens.specs.declared.tokens.Kind.TheVariants as kind
use Rattle.source_tokens.specs.declared.tokens.Token.{Token}
use Rattle.source_reader.specs.declared.faults.Fault.{Fault}
use Rattle.source_reader.specs.declared.faults.Wrong.TheVariants as wrong
use Rattle.source_reader.specs.declared.names.Meaning.TheVariants as meaning
use Rattle.source_reader.specs.declared.parameters.TheConstants.{PARAMETERS}
use Rattle.source_reader.specs.Faults.{◌>>=◌, fault_at}
use Rattle.source_reader.specs.Trees.{InlineTree}
use Rattle.source_reader.specs.Names.{Scope, WithName, number_after}
use Rattle.source_reader.specs.Marks.{unexpected, after_open, is_close}
use Rattle.source_reader.specs.Inlines.{if_short}
use Rattle.source_reader.specs.Values.{whole_value}
use Rattle.source_reader.specs.Lines.{after_comma, after_set, free_name}

abbrev pub after_word_of : Kind → List Token → List Token → Result (List Token) Fault
after_word_of kind.Fn rest ts = Ok rest
after_word_of k rest ts = unexpected ts

-- behind `fn`
abbrev pub after_word : List Token → Result (List Token) Fault
after_word [] = unexpected []
after_word (t ∷ ts) = after_word_of t.kind ts (t ∷ ts)

-- an inline function, and the tokens after it
abbrev pub ReadInline : Type 0
ReadInline = Result (InlineTree × List Token) Fault

-- Behind `)`: the value, which sees so many parameters.
abbrev pub value_with : Scope → (count : ℕ) → List Token → ReadInline
value_with names n ts = do
  from ← after_set ts
  v ← whole_value names from
  short ← if_short v.0 from
  Ok (record { parameters = n; value = short }, v.1)

-- behind a parameter
abbrev pub behind_parameter : (Scope → ℕ → List Token → ReadInline) → Scope → (count : ℕ) → List Token → ReadInline
behind_parameter next names n ts = if is_close ts then value_with names n (drop 1 ts) else (after_comma ts >>= λ rest. next names n rest)

abbrev pub one_parameter : (Scope → ℕ → List Token → ReadInline) → Scope → (count : ℕ) → List Token → ReadInline
one_parameter next names n ts = do
  x ← free_name names ts
  behind_parameter next (WithName x (meaning.Variable n) names) (number_after n) (drop 1 ts)

-- so many parameters more at most, and the value
unfoldable pub parameters_from : ℕ → Scope → (count : ℕ) → List Token → ReadInline
parameters_from zero names n ts = Err (fault_at ts wrong.TooLong)
parameters_from (suc left) names n ts = one_parameter (parameters_from left) names n ts

-- behind `(`
abbrev pub inside_of : Scope → List Token → ReadInline
inside_of names ts = if is_close ts then value_with names 0 (drop 1 ts) else parameters_from PARAMETERS names 0 ts

-- behind `inline`: the name, what it stands for, and the tokens after it
abbrev pub inline_at : Scope → List Token → Result (ℕ × InlineTree × List Token) Fault
inline_at names ts = do
  named ← after_word ts
  x ← free_name names named
  inside ← after_open (drop 1 named)
  f ← inside_of names inside
  Ok (x, f.0, f.1)
