-- How the rows of a pool are held: each at a position of a slab, which is noted by the row's place, and four families of lists of positions.
use Rattle.std.specs.Prelude.{◌≡◌, ◌⊎◌, ◌<◌, ◌≤◌, ◌+◌, ◌*◌, ℕ, if◌then◌else◌, List, [], ◌∷◌, ◌++◌, Option, Some, None, length, map, filter, slice_get, slice_index_or}
use Rattle.std.specs.List.{filter_map}
use Rattle.std.specs.Option.{option_and_then, option_map}
use Rattle.job_language.specs.declared.tenants.TheConstants.{MAX_SLOTS, MAX_ROWS}
use Rattle.place_lists.specs.Lists.{Lists, list_in}
use Rattle.slab.specs.Slab.{Slab, slab_len}
use Rattle.region_tag.specs.declared.row_id.RowId.{RowId}
use Rattle.ready_pool.specs.declared.pool.Waiting.{Waiting}
use Rattle.ready_pool.specs.Ready.{AreRising, is_made_on, is_of}

-- the rows by position, and the position by place, which says nothing if no row waits; and the positions of all rows, of those made on a slot, of those in the region of a place, and of those of both
pub record PoolParts : Type 0 where
  pub slots : ℕ
  pub nodes : Slab Waiting
  pub positions : List ℕ
  pub all : Lists
  pub by_slot : Lists
  pub by_region : Lists
  pub by_both : Lists

-- the row that waits at a position
abbrev pub row_at : List (Option Waiting) → ℕ → Option Waiting
row_at table place = slice_index_or table place None

-- the position of the row of a handle, if it waits
abbrev pub find : List (Option Waiting) → List ℕ → RowId → Option ℕ
find table positions row = option_and_then (λ p. option_and_then (λ w. if is_of row w then Some p else None) (row_at table p)) (slice_get positions row.place)

-- the rows in order of making
abbrev pub rows_of : List (Option Waiting) → Lists → List Waiting
rows_of table all = filter_map (row_at table) (list_in all 0)

abbrev pub place_of : Option RowId → Option ℕ
place_of region = option_map (λ (r : RowId). r.place) region

-- the number of the list of a slot and the place of a region
abbrev pub number_of : (slots : ℕ) → Option ℕ → Option ℕ → Option ℕ
number_of slots (Some slot) (Some place) = Some (place * slots + slot)
number_of slots (Some slot) None = None
number_of slots None place = None

-- for each family the list that a row is in
abbrev pub all_key : Waiting → Option ℕ
all_key w = Some 0

abbrev pub slot_key : Waiting → Option ℕ
slot_key w = w.made_on

abbrev pub region_key : Waiting → Option ℕ
region_key w = place_of w.region

abbrev pub both_key : (slots : ℕ) → Waiting → Option ℕ
both_key slots w = number_of slots w.made_on (place_of w.region)

abbrev pub positions_of : (seat : Waiting → ℕ) → List Waiting → List ℕ
positions_of seat rows = map seat rows

abbrev pub Waits : List Waiting → Waiting → Type 0
Waits [] v = ⊥
Waits (w ∷ ws) v = (w ≡ v) ⊎ Waits ws v

-- Each list of a family has the positions of the rows whose key is its number, in order of making.
pub record AreListed (seat : Waiting → ℕ) (key : Waiting → Option ℕ) (count places : ℕ) (lists : Lists) (rows : List Waiting) : Type 0 where
  pub count_is : length lists.lists ≡ count
  pub places_are : lists.places ≡ places
  pub listed : (l : ℕ) → list_in lists l ≡ positions_of seat (filter (λ w. is_made_on l (key w)) rows)

-- Rows whose regions have the same place are in the same region.
abbrev pub AreAlike : List Waiting → Type 0
AreAlike rows = (v w : Waiting) → Waits rows v → Waits rows w → (place : ℕ) → place_of v.region ≡ Some place → place_of w.region ≡ Some place → v.region ≡ w.region

-- These rows are held, at most `limit`.
pub record HoldsRows (limit : ℕ) (held : PoolParts) (rows : List Waiting) : Type 0 where
  pub seat : Waiting → ℕ
  pub size : length held.positions ≡ limit
  pub few : limit ≤ MAX_ROWS
  pub few_slots : held.slots ≤ MAX_SLOTS
  pub rising : AreRising rows
  pub alike : AreAlike rows
  pub there : (w : Waiting) → Waits rows w → row_at held.nodes.slots (seat w) ≡ Some w
  pub waits : (p : ℕ) (w : Waiting) → row_at held.nodes.slots p ≡ Some w → Waits rows w × (seat w ≡ p)
  pub noted : (w : Waiting) → Waits rows w → (w.row.place < length held.positions) × (slice_index_or held.positions w.row.place 0 ≡ seat w)
  pub count : slab_len held.nodes ≡ length rows
  pub room : limit ≤ held.nodes.capacity
  pub all_listed : AreListed seat all_key 1 held.nodes.capacity held.all rows
  pub slots_listed : AreListed seat slot_key held.slots held.nodes.capacity held.by_slot rows
  pub regions_listed : AreListed seat region_key limit held.nodes.capacity held.by_region rows
  pub both_listed : AreListed seat (both_key held.slots) (limit * held.slots) held.nodes.capacity held.by_both rows

-- a position comes after the last one of a list, if there is a list
abbrev pub extended : Option ℕ → (place l : ℕ) → List ℕ → List ℕ
extended list place l xs = if is_made_on l list then xs ++ place ∷ [] else xs
