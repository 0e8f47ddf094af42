-- Places that are filed in lists.
use Rattle.std.specs.Prelude.{◌≡◌, ◌==◌, ℕ, Bool, false, List, Option, Some, None, length, slice_index_or, slice_set, count_by}
use Rattle.std.specs.Option.{option_map_or}
use Rattle.place_lists.specs.Lists.{Lists, list_in, IsIn}

-- how many lists there are, and by place the list that it is filed in
pub record Filing : Type 0 where
  pub lists : ℕ
  pub by_place : List (Option ℕ)

-- the list that a place is filed in; a place that is not there is filed in none
abbrev pub filed_in : Filing → ℕ → Option ℕ
filed_in filing place = slice_index_or filing.by_place place None

-- a place filed elsewhere
abbrev pub with_filed : Filing → ℕ → Option ℕ → Filing
with_filed filing place list = record filing { by_place = slice_set filing.by_place place list }

abbrev pub is_list : ℕ → Option ℕ → Bool
is_list list filed = option_map_or (λ l. l == list) filed false

-- how many places are filed in a list
abbrev pub filed_count : Filing → ℕ → ℕ
filed_count filing list = count_by (is_list list) filing.by_place

-- The lists hold the places that are filed there, and no others.
pub record AreFiled (lists : Lists) (by_place : List (Option ℕ)) : Type 0 where
  pub places : lists.places ≡ length by_place
  pub held : (l p : ℕ) → slice_index_or by_place p None ≡ Some l → IsIn (list_in lists l) p
  pub noted : (l p : ℕ) → IsIn (list_in lists l) p → slice_index_or by_place p None ≡ Some l
