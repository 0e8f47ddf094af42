-- What is read from a JSON value: whole numbers, items and members.
use Rattle.std.specs.Prelude.{ℕ, ℤ, List, [], ◌∷◌, Option, Some, None, Result, Ok, Err, option_map, option_and_then, Bool, false, ◌==◌, ◌&&◌, nat_le, if◌then◌else◌}
use Rattle.std.specs.Option.{option_map_or}
use Rattle.serde_json.specs.Data.{Data, Items, no_items, item}
use Rattle.serde_json.specs.Events.{members_len}
use Rattle.serde_json.specs.Find.{get, as_number, as_u64, as_i64, as_array, as_object}

infixl 10 ◌>>=◌
abbrev pub ◌>>=◌ : {A B : Type 0} → Option A → (A → Option B) → Option B
o >>= f = option_and_then f o

abbrev pub result_map : {A B E : Type 0} → (A → B) → Result A E → Result B E
result_map f (Ok x) = Ok (f x)
result_map f (Err e) = Err e

-- a member of an object, as what it spells
abbrev pub get_as : {A : Type 0} → (name : List ℕ) → (Data → Option A) → Data → Option A
get_as name read d = get name d >>= read

-- a number that is whole and not negative, below 2 ^ 64
abbrev pub whole : Data → Option ℕ
whole d = option_and_then as_u64 (as_number d)

-- a number that is whole, of 64 bits with a sign
abbrev pub integer : Data → Option ℤ
integer d = option_and_then as_i64 (as_number d)

-- a whole number from the lowest to the highest that may stand there
abbrev pub number_in : (lowest highest : ℕ) → Data → Option ℕ
number_in lowest highest d = whole d >>= λ n. if nat_le lowest n && nat_le n highest then Some n else None

abbrev pub list_of : Items → List Data
list_of no_items = []
list_of (item d ds) = d ∷ list_of ds

-- the items of an array
abbrev pub items_of : Data → Option (List Data)
items_of d = option_map list_of (as_array d)

-- An object with that number of members. It has each name once.
abbrev pub has_members : ℕ → Data → Bool
has_members n d = option_map_or (λ ms. members_len ms == n) (as_object d) false
