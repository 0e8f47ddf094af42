-- The dumps of each tenant that are there, by the numbers of their terms.
use Rattle.std.specs.Prelude.{◌≡◌, ◌≢◌, ℕ, suc, ◌<◌, ◌≤◌, Bool, if◌then◌else◌, List, [], ◌∷◌, ◌++◌, Option, None, IfSome, Contains, EachIndex, length, slice_index, string_bytes}
use Rattle.std.specs.Str.{bytes_eq}
use Rattle.term_life.specs.Dumps.{without, AreNewest, IsOldest, IsTooOld}
use Rattle.term_life.specs.Spans.{capped}
use Rattle.host_folder.specs.declared.shelves.Named.{Named}
use Rattle.host_folder.specs.declared.shelves.Shelves.{Shelves}

-- Is it the tenant of that name?
abbrev pub has_name : (name : List ℕ) → Named → Bool
has_name name t = bytes_eq (string_bytes t.name) name

-- the numbers of the first tenant of that name, and none without one
abbrev pub numbers_in : List Named → (name : List ℕ) → List ℕ
numbers_in [] name = []
numbers_in (t ∷ ts) name = if has_name name t then t.shelf else numbers_in ts name

abbrev pub numbers_of : Shelves → (name : List ℕ) → List ℕ
numbers_of s name = numbers_in s.tenants.items name

-- One more number is there, and the oldest went if it was too old then.
pub record IsPut (keep number : ℕ) (old new : List ℕ) (gone : Option ℕ) : Type 0 where
  pub all : gone ≡ None → new ≡ old ++ number ∷ []
  pub stay : gone ≡ None → AreNewest keep new
  pub one : IfSome gone (λ o. Contains (old ++ number ∷ []) o × IsOldest (old ++ number ∷ []) o × IsTooOld keep (old ++ number ∷ []) o)
  pub rest : IfSome gone (λ o. new ≡ without o (old ++ number ∷ []))

-- The tenants of all other names have the numbers that they had.
abbrev pub KeepsOthers : (name : List ℕ) (old new : Shelves) → Type 0
KeepsOthers name old new = (other : List ℕ) → other ≢ name → numbers_of new other ≡ numbers_of old other

abbrev pub KeepsAll : (old new : Shelves) → Type 0
KeepsAll old new = (other : List ℕ) → numbers_of new other ≡ numbers_of old other

-- Each of these numbers lies before that one, but for the last number there is.
abbrev pub ComeBefore : (next : ℕ) (numbers : List ℕ) → Type 0
ComeBefore next numbers = EachIndex numbers (λ k. capped (suc (slice_index numbers k)) ≤ next)

-- the number after the newest of them, and 0 without one
pub record IsAfterNewest (numbers : List ℕ) (next : ℕ) : Type 0 where
  pub none : length numbers ≡ 0 → next ≡ 0
  pub after : ComeBefore next numbers
  pub newest : 0 < length numbers → (n : ℕ) × Contains numbers n × (next ≡ capped (suc n))
