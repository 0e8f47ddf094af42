-- Constants and cells, inline functions below them, and the functions below these.
use Rattle.std.specs.Prelude.{ℕ, zero, suc, ℤ, Bool, true, false, List, [], ◌∷◌, drop, Some, Result, Ok, Err, if◌then◌else◌}
use Rattle.source_tokens.specs.declared.tokens.Kind.{Kind}
use Rattle.source_tokens.specs.declared.tokens.Kind.TheVariants as kind
use Rattle.source_tokens.specs.declared.tokens.Token.{Token}
use Rattle.source_reader.specs.declared.faults.Fault.{Fault}
use Rattle.source_reader.specs.declared.faults.Wrong.TheVariants as wrong
use Rattle.source_reader.specs.declared.names.Meaning.{Meaning}
use Rattle.source_reader.specs.declared.names.Meaning.TheVariants as meaning
use Rattle.source_reader.specs.declared.items.TheConstants.{INLINES}
use Rattle.source_reader.specs.declared.functions.TheConstants.{FUNCTIONS}
use Rattle.source_reader.specs.Faults.{◌>>=◌, fault_at}
use Rattle.source_reader.specs.Trees.{FunctionTree}
use Rattle.source_reader.specs.Constants.{constant_in}
use Rattle.source_reader.specs.Keys.{cell_at}
use Rattle.source_reader.specs.Headers.{is_inline as is_inline_of}
use Rattle.source_reader.specs.Names.{Scope, WithName, WithInline}
use Rattle.source_reader.specs.Values.{whole_value}
use Rattle.source_reader.specs.Lines.{after_set, after_line_ends, item_ended, free_name}
use Rattle.source_reader.specs.Parameters.{inline_at}
use Rattle.source_reader.specs.Functions.{functions_from}
use Rattle.source_reader.specs.Gathering.{gatherings_from}

-- behind `const` or `param`: the name, the number in the text, and the tokens after it
abbrev pub constant_at : Scope → List Token → Result (ℕ × ℤ × List Token) Fault
constant_at names ts = do
  x ← free_name names ts
  from ← after_set (drop 1 ts)
  v ← whole_value names from
  z ← constant_in v.0 from
  Ok (x, z, v.1)

abbrev pub is_cell_of : Kind → Bool
is_cell_of kind.Cell = true
is_cell_of k = false

abbrev pub is_cell : List Token → Bool
is_cell [] = false
is_cell (t ∷ ts) = is_cell_of t.kind

abbrev pub is_inline : List Token → Bool
is_inline [] = false
is_inline (t ∷ ts) = is_inline_of t.kind

abbrev pub is_item_of : Kind → Bool
is_item_of kind.Const = true
is_item_of (kind.Param o) = true
is_item_of kind.Cell = true
is_item_of k = false

-- whether there is a constant or a cell at the front
abbrev pub is_item : List Token → Bool
is_item [] = false
is_item (t ∷ ts) = is_item_of t.kind

-- the name of a constant or a cell, what it stands for, and the tokens after it
abbrev pub Declared : Type 0
Declared = Result (ℕ × Meaning × List Token) Fault

abbrev pub a_cell : Result (ℕ × ℕ × List Token) Fault → Declared
a_cell r = r >>= λ c. Ok (c.0, meaning.Cell c.1, c.2)

-- A `param` that is given a number has that one, and not its own.
abbrev pub number_or_given : Kind → ℤ → ℤ
number_or_given (kind.Param (Some z)) own = z
number_or_given k own = own

-- the number of a constant whose word is at the front
abbrev pub number_of : List Token → (own : ℤ) → ℤ
number_of [] own = own
number_of (t ∷ ts) own = number_or_given t.kind own

abbrev pub a_constant : List Token → Result (ℕ × ℤ × List Token) Fault → Declared
a_constant ts r = r >>= λ c. Ok (c.0, meaning.Constant (number_of ts c.1), c.2)

-- a constant or a cell, whose word is at the front
abbrev pub declared_at : Scope → List Token → Declared
declared_at names ts = if is_cell ts then a_cell (cell_at names (drop 1 ts)) else a_constant ts (constant_at names (drop 1 ts))

-- reads all functions, behind constants, cells and inline functions with these names and meanings, the last one first
abbrev pub ItemReader : Type 0
ItemReader = Scope → List Token → Result (List FunctionTree) Fault

abbrev pub no_item : ItemReader
no_item names ts = Err (fault_at ts wrong.TooManyItems)

-- one inline function more
abbrev pub one_inline : ItemReader → ItemReader
one_inline next names ts = do
  f ← inline_at names (drop 1 ts)
  rest ← item_ended f.2
  next (WithInline f.0 f.1 names) rest

-- Functions stand below all inline functions, and those of parallel loops come behind them.
abbrev pub inline_or_fn : ItemReader → ItemReader
inline_or_fn inline names ts = if is_inline ts then inline names ts else (functions_from FUNCTIONS names [] [] ts >>= λ fs. gatherings_from names fs ts)

-- so many inline functions at most, and the functions below them
unfoldable pub inlines_from : ℕ → ItemReader
inlines_from zero names ts = inline_or_fn no_item names (after_line_ends ts)
inlines_from (suc n) names ts = inline_or_fn (one_inline (inlines_from n)) names (after_line_ends ts)

-- one constant or cell more
abbrev pub one_item : ItemReader → ItemReader
one_item next names ts = do
  d ← declared_at names ts
  rest ← item_ended d.2
  next (WithName d.0 d.1 names) rest

-- Inline functions stand below all of these.
abbrev pub item_at : ItemReader → ItemReader
item_at item names ts = if is_item ts then item names ts else inlines_from INLINES names ts

-- so many constants and cells at most, and what stands below them
unfoldable pub items_from : ℕ → ItemReader
items_from zero names ts = item_at no_item names (after_line_ends ts)
items_from (suc n) names ts = item_at (one_item (items_from n)) names (after_line_ends ts)
