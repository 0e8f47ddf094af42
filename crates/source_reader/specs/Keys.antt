-- Which key a cell has.
use Rattle.std.specs.Prelude.{ℕ, ◌==◌, ◌&&◌, ◌||◌, nat_lt, ℤ, pos, negsuc, Bool, true, false, List, [], ◌∷◌, drop, Option, Some, None, Result, Ok, Err, if◌then◌else◌}
use Rattle.job_language.specs.declared.instructions.TheConstants.{KEYS}
use Rattle.source_tokens.specs.declared.tokens.Kind.{Kind}
use Rattle.source_tokens.specs.declared.tokens.Kind.TheVariants as kind
use Rattle.source_tokens.specs.declared.tokens.Token.{Token}
use Rattle.source_reader.specs.declared.faults.Fault.{Fault}
use Rattle.source_reader.specs.declared.faults.Wrong.TheVariants as wrong
use Rattle.source_reader.specs.declared.names.Meaning.{Meaning}
use Rattle.source_reader.specs.declared.names.Meaning.TheVariants as meaning
use Rattle.source_reader.specs.Faults.{◌>>=◌, fault_at}
use Rattle.source_reader.specs.Functions.{is_this}
use Rattle.source_reader.specs.Lines.{free_name}
use Rattle.source_reader.specs.Names.{Scope, Functions, WithName, WithInline, Waited, Inner, Gathering, Asked}

abbrev pub key_numbered : ℤ → Option ℕ
key_numbered (pos n) = if nat_lt n KEYS then Some n else None
key_numbered (negsuc n) = None

abbrev pub key_in : Kind → Option ℕ
key_in (kind.Number z) = key_numbered z
key_in k = None

-- the key whose number is at the front
abbrev pub key_written : List Token → Option ℕ
key_written [] = None
key_written (t ∷ ts) = key_in t.kind

abbrev pub is_at_of : Kind → Bool
is_at_of kind.At = true
is_at_of k = false

abbrev pub is_at : List Token → Bool
is_at [] = false
is_at (t ∷ ts) = is_at_of t.kind

abbrev pub is_of_key : ℕ → Meaning → Bool
is_of_key k (meaning.Cell j) = j == k
is_of_key k m = false

-- whether a cell above has that key
abbrev pub has_key : ℕ → Scope → Bool
has_key k (Functions hs) = false
has_key k (WithName x m others) = is_of_key k m || has_key k others
has_key k (WithInline x f others) = has_key k others
has_key k (Waited g others) = has_key k others
has_key k (Inner is_loop others) = has_key k others
has_key k (Gathering g others) = has_key k others
has_key k (Asked left b v others) = has_key k others

-- whether one of these tokens is `@` before that key
abbrev pub chooses : ℕ → List Token → Bool
chooses k [] = false
chooses k (t ∷ ts) = (is_at_of t.kind && is_this k (key_written ts)) || chooses k ts

-- A cell above has the key, or one below chooses it.
abbrev pub is_taken : ℕ → Scope → List Token → Bool
is_taken k names ts = has_key k names || chooses k ts

-- the first of these keys that is not taken
abbrev pub first_free : List ℕ → Scope → List Token → Option ℕ
first_free [] names ts = None
first_free (k ∷ ks) names ts = if is_taken k names ts then first_free ks names ts else Some k

abbrev pub all_keys : List ℕ
all_keys = 0 ∷ 1 ∷ 2 ∷ 3 ∷ 4 ∷ 5 ∷ 6 ∷ 7 ∷ []

abbrev pub ReadKey : Type 0
ReadKey = Result (ℕ × List Token) Fault

abbrev pub if_free : Option ℕ → (named ts : List Token) → ReadKey
if_free None named ts = Err (fault_at named wrong.TooManyCells)
if_free (Some k) named ts = Ok (k, ts)

abbrev pub if_chosen : Option ℕ → Scope → List Token → ReadKey
if_chosen None names ts = Err (fault_at ts wrong.WrongKey)
if_chosen (Some k) names ts = if has_key k names then Err (fault_at ts wrong.KnownKey) else Ok (k, drop 1 ts)

-- Behind the name of a cell, which is the first of the tokens `named`: a cell that chooses none has the least key that is not taken.
abbrev pub key_at : Scope → (named ts : List Token) → ReadKey
key_at names named ts = if is_at ts then if_chosen (key_written (drop 1 ts)) names (drop 1 ts) else if_free (first_free all_keys names ts) named ts

-- behind `cell`: the name, its key, and the tokens after it
abbrev pub cell_at : Scope → List Token → Result (ℕ × ℕ × List Token) Fault
cell_at names ts = do
  x ← free_name names ts
  k ← key_at names ts (drop 1 ts)
  Ok (x, k.0, k.1)
