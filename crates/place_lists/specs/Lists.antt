-- Lists of places.
use Rattle.std.specs.Prelude.{◌≡◌, ◌⊎◌, ◌==◌, ℕ, zero, suc, not, List, [], ◌∷◌, Option, Some, None, length, map, filter, slice_index_or}
use Rattle.place_lists.specs.Links.{Links, link_at}

-- over how many places there are lists, and what is in each list
pub record Lists : Type 0 where
  pub places : ℕ
  pub lists : List (List ℕ)

-- a list that is not there is empty
abbrev pub list_in : Lists → ℕ → List ℕ
list_in lists l = slice_index_or lists.lists l []

abbrev pub IsIn : List ℕ → ℕ → Type 0
IsIn [] c = ⊥
IsIn (x ∷ xs) c = (x ≡ c) ⊎ IsIn xs c

abbrev pub first_of : List ℕ → Option ℕ
first_of [] = None
first_of (x ∷ xs) = Some x

abbrev pub last_from : Option ℕ → List ℕ → Option ℕ
last_from back [] = back
last_from back (x ∷ xs) = last_from (Some x) xs

abbrev pub last_of : List ℕ → Option ℕ
last_of xs = last_from None xs

abbrev pub without : ℕ → List ℕ → List ℕ
without place xs = filter (λ x. not (x == place)) xs

-- at most `left` that follow one another by the links
abbrev pub walk : (left : ℕ) → List (Option ℕ) → Option ℕ → List ℕ
walk zero next from = []
walk (suc n) next None = []
walk (suc n) next (Some x) = x ∷ walk n next (link_at next x)

-- The list from a head goes by the links; it has at most as many places as there are.
abbrev pub list_of : Links → ℕ → List ℕ
list_of links l = walk (length links.next) links.next (link_at links.heads l)

abbrev pub lists_of : Links → Lists
lists_of links = record { places = length links.next; lists = map (λ head. walk (length links.next) links.next head) links.heads }
