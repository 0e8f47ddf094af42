-- The heads of parallel loops: an index, its range, and how many numbers one task takes by itself.
use Rattle.std.specs.Prelude.{ℕ, ◌+◌, ◌-◌, ◌==◌, ◌||◌, ℤ, pos, int_lt, Bool, true, false, List, [], ◌∷◌, drop, length, Option, Some, None, Result, Ok, Err, if◌then◌else◌}
use Rattle.source_tokens.specs.declared.tokens.Kind.{Kind}
use Rattle.source_tokens.specs.declared.tokens.Kind.TheVariants as kind
use Rattle.source_tokens.specs.declared.tokens.Token.{Token}
use Rattle.source_reader.specs.declared.calls.Run.TheVariants as run
use Rattle.source_reader.specs.declared.faults.Fault.{Fault}
use Rattle.source_reader.specs.declared.faults.Wrong.TheVariants as wrong
use Rattle.source_reader.specs.declared.headers.Title.TheVariants as title
use Rattle.source_reader.specs.declared.ranges.TheConstants.{GRAIN}
use Rattle.source_reader.specs.Calls.{argument_at, callee_titled, if_group_left, made}
use Rattle.source_reader.specs.Constants.{constant_in, is_step}
use Rattle.source_reader.specs.Faults.{◌>>=◌, fault_at}
use Rattle.source_reader.specs.Lines.{after_begin, after_in, after_range, free_name, is_end}
use Rattle.source_reader.specs.Marks.{unexpected}
use Rattle.source_reader.specs.Names.{Scope, Inner}
use Rattle.source_reader.specs.Trees.{StmtTree}
use Rattle.source_reader.specs.Values.{whole_value}

abbrev pub is_grain_of : Kind → Bool
is_grain_of kind.Grain = true
is_grain_of k = false

abbrev pub is_grain : List Token → Bool
is_grain [] = false
is_grain (t ∷ ts) = is_grain_of t.kind

abbrev pub from_one : ℤ → List Token → Result ℤ Fault
from_one z ts = if int_lt z (pos 1) then Err (fault_at ts wrong.NoGrain) else Ok z

-- behind `grain`
abbrev pub grain_in : Scope → List Token → Result (ℤ × List Token) Fault
grain_in names ts = do
  v ← whole_value names ts
  z ← constant_in v.0 ts
  n ← from_one z ts
  Ok (n, v.1)

-- behind that: how many numbers one task takes at most
abbrev pub grain_at : Scope → List Token → Result (ℤ × List Token) Fault
grain_at names ts = if is_grain ts then grain_in names (drop 1 ts) else Ok (GRAIN, ts)

abbrev pub is_begin : Kind → Bool
is_begin kind.Begin = true
is_begin k = false

abbrev pub short_step : ℤ → List Token → Result ℤ Fault
short_step z ts = if int_lt z (pos 1) || int_lt (pos 1048576) z then Err (fault_at ts wrong.NoStep) else Ok z

abbrev pub distance_in : Scope → List Token → Result (ℤ × List Token) Fault
distance_in names ts = do
  v ← whole_value names ts
  z ← constant_in v.0 ts
  by ← short_step z ts
  Ok (by, v.1)

-- behind the range: how far the numbers are from each other
abbrev pub distance_at : Scope → List Token → Result (ℤ × List Token) Fault
distance_at names ts = if is_step ts then distance_in names (drop 1 ts) else Ok (pos 1, ts)

-- what follows the end of a block in which so many others have begun, if it ends
abbrev pub after_block : (inner : ℕ) → List Token → Option (List Token)
after_block n [] = None
after_block n (t ∷ ts) =
    if is_begin t.kind then after_block (n + 1) ts
    else (if is_end t.kind then (if n == 0 then Some ts else after_block (n - 1) ts) else after_block n ts)

abbrev pub ends_there : Option (List Token) → Result (List Token) Fault
ends_there (Some ts) = Ok ts
ends_there None = unexpected []

-- Behind the word of a parallel loop: a call of its function with both ends, whose value goes to the variable. The function is known by the place of the word; the block is read with it.
-- The index may hide a name around the loop.
abbrev pub parallel_at : Scope → (x : ℕ) → List Token → Result (StmtTree × List Token) Fault
parallel_at names x ts = do
  i ← free_name (Inner true names) ts
  call ← if_group_left (run.Call (Some x)) names ts
  from ← after_in (drop 1 ts)
  low ← argument_at names from
  to ← after_range low.1
  high ← argument_at names to
  by ← distance_at names high.1
  grain ← grain_at names by.1
  inside ← after_begin grain.1
  rest ← ends_there (after_block 0 inside)
  f ← callee_titled (title.Gathering (length ts)) names ts
  Ok (made call f.number (record { first = low.0; second = high.0 }), rest)
