-- What is true of the links of lists.
use Rattle.std.specs.Prelude.{◌≡◌, ◌<◌, ◌≤◌, ℕ, List, [], ◌∷◌, Option, Some, None, length}
use Rattle.place_lists.specs.Links.{Links, link_at}
use Rattle.place_lists.specs.Lists.{IsIn, last_of}

-- These follow one another by the links, both ways, from a place on.
abbrev pub IsRow : (next previous : List (Option ℕ)) → (back from : Option ℕ) → List ℕ → Type 0
IsRow next previous back from [] = from ≡ None
IsRow next previous back from (x ∷ xs) = (from ≡ Some x) × (link_at previous x ≡ back) × IsRow next previous (Some x) (link_at next x) xs

abbrev pub IsOnce : List ℕ → Type 0
IsOnce [] = Unit {0}
IsOnce (x ∷ xs) = (IsIn xs x → ⊥) × IsOnce xs

-- The links are those of these lists.
pub record IsLinked (links : Links) (list : ℕ → List ℕ) : Type 0 where
  pub tail_size : length links.tails ≡ length links.heads
  pub previous_size : length links.previous ≡ length links.next
  pub rows : (l : ℕ) → l < length links.heads → IsRow links.next links.previous None (link_at links.heads l) (list l)
  pub tails : (l : ℕ) → l < length links.heads → link_at links.tails l ≡ last_of (list l)
  pub outside : (l : ℕ) → length links.heads ≤ l → list l ≡ []
  pub once : (l : ℕ) → IsOnce (list l)
  pub within : (l x : ℕ) → IsIn (list l) x → x < length links.next
  pub apart : (l m x : ℕ) → IsIn (list l) x → IsIn (list m) x → l ≡ m
