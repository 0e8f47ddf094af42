-- The links of the lists, and how they change as a place joins a list or leaves it.
use Rattle.std.specs.Prelude.{ℕ, List, Option, Some, None, slice_index_or, slice_set}

-- by list its first and last place; by place what comes after and before it in the list that it is in
pub record Links : Type 0 where
  pub heads : List (Option ℕ)
  pub tails : List (Option ℕ)
  pub next : List (Option ℕ)
  pub previous : List (Option ℕ)

abbrev pub link_at : List (Option ℕ) → ℕ → Option ℕ
link_at links at = slice_index_or links at None

abbrev pub set_at : List (Option ℕ) → Option ℕ → Option ℕ → List (Option ℕ)
set_at links None to = links
set_at links (Some at) to = slice_set links at to

-- An end of a list moves if nothing is beyond it.
abbrev pub end_moved : List (Option ℕ) → ℕ → (beyond to : Option ℕ) → List (Option ℕ)
end_moved ends list None to = slice_set ends list to
end_moved ends list (Some x) to = ends

-- a place comes after the last one of a list
abbrev pub joined : Links → (list place : ℕ) → Links
joined links list place = record {
  heads = end_moved links.heads list (link_at links.tails list) (Some place);
  tails = slice_set links.tails list (Some place);
  next = set_at (slice_set links.next place None) (link_at links.tails list) (Some place);
  previous = slice_set links.previous place (link_at links.tails list);
}

-- what comes before a place and what comes after it are linked
abbrev pub left : Links → (list place : ℕ) → Links
left links list place = record {
  heads = end_moved links.heads list (link_at links.previous place) (link_at links.next place);
  tails = end_moved links.tails list (link_at links.next place) (link_at links.previous place);
  next = set_at links.next (link_at links.previous place) (link_at links.next place);
  previous = set_at links.previous (link_at links.next place) (link_at links.previous place);
}
