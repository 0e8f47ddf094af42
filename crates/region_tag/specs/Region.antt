-- The rows that have been entered, by their places; their regions, and the regions around a region.
use Rattle.std.specs.Prelude.{All, ℕ, zero, suc, ◌==◌, ◌&&◌, ◌<◌, Bool, if◌then◌else◌, List, [], ◌∷◌, Option, Some, None, IsSome, IfSome, slice_index_or}
use Rattle.std.specs.List.{list_any}
use Rattle.std.specs.Option.{option_and_then, option_eq}
use Rattle.region_tag.specs.declared.row_id.RowId.{RowId}
use Rattle.region_tag.specs.declared.regions.Tagged.{Tagged}

-- for each place the row that was entered there
abbrev pub Table : Type 0
Table = List (Option Tagged)

abbrev pub is_same : RowId → RowId → Bool
is_same a b = (a.number == b.number) && (a.place == b.place)

-- Two tags are the same if both name the same region, or none.
abbrev pub same_region : Option RowId → Option RowId → Bool
same_region a b = option_eq is_same a b

-- what is at a row's place, if it is the row's
abbrev pub of_row : RowId → Tagged → Option Tagged
of_row row t = if t.number == row.number then Some t else None

-- what a row was entered with
abbrev pub get : Table → RowId → Option Tagged
get table row = option_and_then (of_row row) (slice_index_or table row.place None)

abbrev pub IsEntered : Table → RowId → Type 0
IsEntered table row = IsSome (get table row)

abbrev pub region_of : Table → RowId → Option RowId
region_of table row = option_and_then (λ t. t.tag) (get table row)

-- the region around a region
abbrev pub around : Table → RowId → Option RowId
around table region = option_and_then (λ t. t.around) (get table region)

-- A region is tagged with itself, and any other row with its maker's tag.
abbrev pub tagged : RowId → (outer : Option RowId) → (is_region : Bool) → Tagged
tagged row outer is_region = record {
  number = row.number;
  tag = if is_region then Some row else outer;
  around = if is_region then outer else None;
}

abbrev pub regions_for : (left : ℕ) → Table → Option RowId → List RowId
regions_for left table None = []
regions_for zero table (Some r) = []
regions_for (suc left) table (Some r) = r ∷ regions_for left table (around table r)

-- The region of a tag, the region around it, and so on. Their numbers decrease, so there are at most as many as the first number.
abbrev pub regions_from : Table → Option RowId → List RowId
regions_from table None = []
regions_from table (Some r) = r ∷ regions_for r.number table (around table r)

-- Is the region of a tag the other one, or inside it?
abbrev pub is_within : Table → Option RowId → RowId → Bool
is_within table tag outer = list_any (λ r. is_same r outer) (regions_from table tag)

abbrev pub IsAroundEarlier : Option Tagged → Type 0
IsAroundEarlier t = IfSome t (λ t. IfSome t.around (λ r. r.number < t.number))

-- Each region was made after the region around it.
abbrev pub IsNested : Table → Type 0
IsNested table = All IsAroundEarlier table
