-- Contexts that are bound to one another.
use Rattle.std.specs.Prelude.{◌≡◌, ◌==◌, ℕ, zero, suc, Bool, true, false, IsTrue, ◌||◌, if◌then◌else◌, List, [], ◌∷◌, Option, Some, None, is_some, IsSome, map, length, count_by, slice_index_or}
use Rattle.std.specs.Prelude.{slice_set}
use Rattle.std.specs.List.{list_any}
use Rattle.std.specs.Option.{option_map_or}

-- A context that is held: what it is bound to, whether it has a cancel request of its own, and whether it was bound to a context that was released while it was cancelled.
pub record Binding : Type 0 where
  pub parent : Option ℕ
  pub is_asked : Bool
  pub is_orphan : Bool

-- The contexts by their ids. At an id there is nothing if no context with it is held.
abbrev pub Forest : Type 0
Forest = List (Option Binding)

abbrev pub binding : Forest → ℕ → Option Binding
binding forest c = slice_index_or forest c None

abbrev pub IsHeld : Forest → ℕ → Type 0
IsHeld forest c = IsSome (binding forest c)

abbrev pub held_count : Forest → ℕ
held_count forest = count_by (λ (b : Option Binding). is_some b) forest

abbrev pub parent_in : Option Binding → Option ℕ
parent_in None = None
parent_in (Some b) = b.parent

-- the context that a context is bound to
abbrev pub parent : Forest → ℕ → Option ℕ
parent forest c = parent_in (binding forest c)

abbrev pub chain_from : Option ℕ → (ℕ → List ℕ) → List ℕ
chain_from None chain_of = []
chain_from (Some p) chain_of = chain_of p

abbrev pub chain_for : (left : ℕ) → Forest → ℕ → List ℕ
chain_for zero forest c = []
chain_for (suc left) forest c = c ∷ chain_from (parent forest c) (chain_for left forest)

-- The chain of a context: the context, what it is bound to, what that is bound to, and so on.
abbrev pub chain : Forest → ℕ → List ℕ
chain forest c = chain_for (length forest) forest c

abbrev pub is_within : Forest → (c above : ℕ) → Bool
is_within forest c above = list_any (λ d. d == above) (chain forest c)

abbrev pub asks_in : Option Binding → Bool
asks_in None = false
asks_in (Some b) = b.is_asked || b.is_orphan

-- A context is cancelled if one on its chain has a request, or was bound to one that was released while it was cancelled.
abbrev pub is_cancelled : Forest → ℕ → Bool
is_cancelled forest c = list_any (λ d. asks_in (binding forest d)) (chain forest c)

abbrev pub is_cancelled_above : Forest → ℕ → Bool
is_cancelled_above forest c = option_map_or (is_cancelled forest) (parent forest c) false

-- What holds of all contexts that can be made: what a context is bound to is held; the chain of a
-- context is the context and then the chain of what it is bound to, and so the walk up is one step and
-- then the walk from there; and no two contexts are above one another.
pub record IsForest (forest : Forest) : Type 0 where
  pub parents : (c p : ℕ) → parent forest c ≡ Some p → IsHeld forest p
  pub chains : (c p : ℕ) → parent forest c ≡ Some p → chain forest c ≡ c ∷ chain forest p
  pub walk : (c : ℕ) → is_cancelled forest c ≡ (asks_in (binding forest c) || is_cancelled_above forest c)
  pub one_way : (c d : ℕ) → IsTrue (is_within forest c d) → IsTrue (is_within forest d c) → c ≡ d

-- a context more
abbrev pub with_bound : Forest → ℕ → Option ℕ → Forest
with_bound forest c p = slice_set forest c (Some (record { parent = p; is_asked = false; is_orphan = false }))

abbrev pub asking : Bool → Option Binding → Option Binding
asking asked None = None
asking asked (Some b) = Some (record b { is_asked = asked })

-- the request of one context made or taken back
abbrev pub with_request : Forest → ℕ → Bool → Forest
with_request forest c asked = slice_set forest c (asking asked (binding forest c))

abbrev pub leaving : ℕ → Binding → Option ℕ → Binding
leaving c b None = b
leaving c b (Some p) = if p == c then record { parent = None; is_asked = b.is_asked; is_orphan = true } else b

abbrev pub without_parent : ℕ → Option Binding → Option Binding
without_parent c None = None
without_parent c (Some b) = Some (leaving c b b.parent)

-- a context fewer: what is bound to it was bound to one that is released
abbrev pub without : Forest → ℕ → Forest
without forest c = slice_set (map (without_parent c) forest) c None
