-- Why chains end: the contexts that are held, the last bound first, each before what it is bound to.
use Rattle.std.specs.Prelude.{◌≡◌, ◌≤◌, ◌^◌, ◌⊎◌, ℕ, List, [], ◌∷◌, Option, Some, None, length}
use Rattle.cancel_context.specs.Forest.{Forest, IsHeld, parent, held_count}

abbrev pub IsIn : List ℕ → ℕ → Type 0
IsIn [] c = ⊥
IsIn (x ∷ xs) c = (x ≡ c) ⊎ IsIn xs c

abbrev pub ParentIn : Option ℕ → List ℕ → Type 0
ParentIn None older = Unit {0}
ParentIn (Some p) older = IsIn older p

abbrev pub IsNewestFirst : Forest → List ℕ → Type 0
IsNewestFirst forest [] = Unit {0}
IsNewestFirst forest (c ∷ older) = IsHeld forest c × ParentIn (parent forest c) older × IsNewestFirst forest older

pub record IsBindingOrder (forest : Forest) (order : List ℕ) : Type 0 where
  pub newest_first : IsNewestFirst forest order
  pub has_all : (c : ℕ) → IsHeld forest c → IsIn order c
  pub has_no_more : length order ≤ held_count forest

abbrev pub HasBindingOrder : Forest → Type 0
HasBindingOrder forest = (order : List ℕ) × IsBindingOrder forest order

-- what is true of all contexts: an id is a `u16`, and chains end
pub record IsSound (forest : Forest) : Type 0 where
  pub few : length forest ≤ 2 ^ 16
  pub ordered : HasBindingOrder forest
