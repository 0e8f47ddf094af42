-- Whose turn it is among tenants that stand in a ring.
use Rattle.std.specs.Prelude.{ℕ, ◌≡◌, ◌<◌, ◌≤◌, ◌⊎◌, Bool, true, List, length, Option, Some, None, slice_index_or}

-- Does the tenant of that place wait?
abbrev pub Waits : List Bool → ℕ → Type 0
Waits waits k = (k < length waits) × (slice_index_or waits k true ≡ true)

-- After the last one, the ring comes to the one place no later than to the other.
abbrev pub IsNoLater : (last one other : ℕ) → Type 0
IsNoLater last one other = ((last < one) × ((other ≤ last) ⊎ (one ≤ other))) ⊎ ((one ≤ last) × (other ≤ last) × (one ≤ other))

-- The tenant of that place waits, and the ring comes to it no later than to each other that waits. So between two turns of
-- one tenant each other that waits all the while has one.
pub record IsNext (waits : List Bool) (last place : ℕ) : Type 0 where
  pub waits_there : Waits waits place
  pub first : (other : ℕ) → Waits waits other → IsNoLater last place other

-- The first of the places from `low` on, below `high`, whose tenant waits; none only if none of them waits.
abbrev pub IsFirst : List Bool → (low high : ℕ) → Option ℕ → Type 0
IsFirst waits low high None = (place : ℕ) → low ≤ place → place < high → Waits waits place → ⊥
IsFirst waits low high (Some first) = (low ≤ first) × (first < high) × Waits waits first × ((place : ℕ) → low ≤ place → place < first → Waits waits place → ⊥)
