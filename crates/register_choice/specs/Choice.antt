-- When registers that were chosen serve as well: what the check looks at, place by place.
use Rattle.std.specs.Prelude.{◌≡◌, ◌≢◌, ◌⊎◌, ℕ, ◌+◌, ◌<◌, Bool, true, false, List, [], ◌∷◌, Option, Some, None, slice_get, slice_index_or}
use Rattle.std.specs.List.{AllByRecursion}
use Rattle.job_language.specs.declared.instructions.Instr.{Instr}
use Rattle.job_compiler.specs.Colours.{renamed, reads, writes, leads_to, IsAmong, Flows, BeginsWith}

-- two numbers, or fewer, as a list
abbrev pub listed : Option ℕ → Option ℕ → List ℕ
listed None None = []
listed None (Some b) = b ∷ []
listed (Some a) None = a ∷ []
listed (Some a) (Some b) = a ∷ b ∷ []

-- the register of a virtual one at a place, by a row for each place
abbrev pub colour_of : List (List ℕ) → (place u : ℕ) → ℕ
colour_of colours k u = slice_index_or (slice_index_or colours k []) u 0

-- whether a virtual register is read later, by a row for each place
abbrev pub live_of : List (List Bool) → (place u : ℕ) → Bool
live_of rows k u = slice_index_or (slice_index_or rows k []) u false

-- A register that is read later was read later before and keeps its register, or is written here; and what is written here lies on nothing else that is read later.
abbrev pub Stays : (c next : ℕ → ℕ) (here : List Bool) (u : ℕ) (written : List ℕ) → Type 0
Stays c next here u ws = (IsAmong u ws ⊎ ((slice_index_or here u false ≡ true) × (next u ≡ c u))) × AllByRecursion (λ d. u ≢ d → next u ≢ next d) ws

-- what is asked of one place
pub record IsColouredAt (colours : List (List ℕ)) (rows : List (List Bool)) (k : ℕ) (i : Instr) : Type 0 where
  pub read : AllByRecursion (λ u. live_of rows k u ≡ true) (reads i)
  pub low : AllByRecursion (λ d. (d < 256) × (colour_of colours (k + 1) d < 8)) (writes i)
  pub flow : AllByRecursion (Flows (colour_of colours) (live_of rows) (writes i) k) (leads_to i k)

pub record IsColouring (vs : List Instr) (colours : List (List ℕ)) (rows : List (List Bool)) : Type 0 where
  pub begins : BeginsWith (colour_of colours) (live_of rows)
  pub places : (k : ℕ) (i : Instr) → slice_get vs k ≡ Some i → IsColouredAt colours rows k i

-- the instructions over the registers that were chosen, of which the first one is at a place
abbrev pub renamed_from : (colours : List (List ℕ)) (place : ℕ) → List Instr → List Instr
renamed_from colours k [] = []
renamed_from colours k (i ∷ is) = renamed (colour_of colours k) (colour_of colours (k + 1)) i ∷ renamed_from colours (k + 1) is
