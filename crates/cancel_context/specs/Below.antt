-- The lists of those bound to each context.
use Rattle.std.specs.Prelude.{◌≡◌, ◌<◌, ℕ, List, [], ◌∷◌, Option, Some, None, length, slice_index_or, slice_set}
use Rattle.cancel_context.specs.Forest.{Forest, IsHeld, parent}
use Rattle.cancel_context.specs.Order.{IsIn}

-- By place: the first of those bound to a context, and what comes after and before a context in the list that it is in.
pub record Links : Type 0 where
  pub first : List (Option ℕ)
  pub next : List (Option ℕ)
  pub previous : List (Option ℕ)

-- what comes next at a place
abbrev pub next_of : List (Option ℕ) → ℕ → Option ℕ
next_of next c = slice_index_or next c None

pub record HasPlace (links : Links) (c : ℕ) : Type 0 where
  pub in_first : c < length links.first
  pub in_next : c < length links.next
  pub in_previous : c < length links.previous

abbrev pub set_at : List (Option ℕ) → Option ℕ → Option ℕ → List (Option ℕ)
set_at links None to = links
set_at links (Some at) to = slice_set links at to

-- a context comes before those that were bound to its parent
abbrev pub joined_to : Links → ℕ → ℕ → Links
joined_to links c p = record {
  first = slice_set links.first p (Some c);
  next = slice_set links.next c (next_of links.first p);
  previous = set_at (slice_set links.previous c None) (next_of links.first p) (Some c);
}

abbrev pub emptied : Links → ℕ → Links
emptied links c = record { first = slice_set links.first c None; next = links.next; previous = links.previous }

abbrev pub joined : Links → ℕ → Option ℕ → Links
joined links c None = emptied links c
joined links c (Some p) = joined_to (emptied links c) c p

abbrev pub first_left : List (Option ℕ) → ℕ → Option ℕ → Option ℕ → List (Option ℕ)
first_left first p None after = slice_set first p after
first_left first p (Some before) after = first

-- what comes before a context and what comes after it are linked
abbrev pub left_from : Links → ℕ → ℕ → Links
left_from links c p = record {
  first = first_left links.first p (next_of links.previous c) (next_of links.next c);
  next = set_at links.next (next_of links.previous c) (next_of links.next c);
  previous = set_at links.previous (next_of (set_at links.next (next_of links.previous c) (next_of links.next c)) c) (next_of links.previous c);
}

abbrev pub left : Links → ℕ → Option ℕ → Links
left links c None = links
left links c (Some p) = left_from links c p

-- These follow one another by the links, both ways, from a place on.
abbrev pub IsRow : (next previous : List (Option ℕ)) → (back from : Option ℕ) → List ℕ → Type 0
IsRow next previous back from [] = from ≡ None
IsRow next previous back from (x ∷ xs) = (from ≡ Some x) × (next_of previous x ≡ back) × IsRow next previous (Some x) (next_of next x) xs

abbrev pub IsOnce : List ℕ → Type 0
IsOnce [] = Unit {0}
IsOnce (x ∷ xs) = (IsIn xs x → ⊥) × IsOnce xs

-- The list of each context holds what is bound to it, each once.
pub record AreBelow (forest : Forest) (links : Links) (below : ℕ → List ℕ) : Type 0 where
  pub first_size : length links.first ≡ length forest
  pub next_size : length links.next ≡ length forest
  pub previous_size : length links.previous ≡ length forest
  pub rows : (p : ℕ) → IsHeld forest p → IsRow links.next links.previous None (next_of links.first p) (below p)
  pub once : (p : ℕ) → IsHeld forest p → IsOnce (below p)
  pub bound : (p x : ℕ) → IsHeld forest p → IsIn (below p) x → parent forest x ≡ Some p
  pub all : (p x : ℕ) → parent forest x ≡ Some p → IsIn (below p) x

pub record IsLinked (forest : Forest) (links : Links) : Type 0 where
  pub below : ℕ → List ℕ
  pub lists : AreBelow forest links below
