-- The rows that wait to be started, and the pick of a slot among them.
use Rattle.std.specs.Prelude.{ℕ, ◌<◌, ◌==◌, Bool, true, false, List, [], ◌∷◌, ◌++◌, Option, Some, None, filter, not, AllPairs}
use Rattle.std.specs.List.{list_any}
use Rattle.std.specs.Option.{ForSome}
use Rattle.job_language.specs.declared.tenants.Isolation.{Isolation}
use Rattle.job_language.specs.declared.tenants.Isolation.TheVariants.{Exact, Within}
use Rattle.region_tag.specs.declared.row_id.RowId.{RowId}
use Rattle.region_tag.specs.Region.{Table, IsEntered, is_same, same_region, is_within}
use Rattle.ready_pool.specs.declared.pool.Waiting.{Waiting}

-- what a pool is made for, and its rows in order of making
pub record Ready : Type 0 where
  pub isolation : Isolation
  pub limit : ℕ
  pub slots : ℕ
  pub rows : List Waiting

-- Later rows have greater numbers.
abbrev pub AreRising : List Waiting → Type 0
AreRising rows = AllPairs (λ (w v : Waiting). w.row.number < v.row.number) rows

-- a pool in which nothing waits
abbrev pub empty : Isolation → (limit slots : ℕ) → Ready
empty isolation limit slots = record { isolation = isolation; limit = limit; slots = slots; rows = [] }

-- the pool with one more row, the newest
abbrev pub with_row : Ready → Waiting → Ready
with_row pool w = record pool { rows = pool.rows ++ w ∷ [] }

abbrev pub is_of : RowId → Waiting → Bool
is_of row w = is_same w.row row

abbrev pub is_waiting : Ready → RowId → Bool
is_waiting pool row = list_any (is_of row) pool.rows

abbrev pub without : Ready → RowId → Ready
without pool row = record pool { rows = filter (λ w. not (is_of row w)) pool.rows }

-- Is a region, if there is one, among those that are entered?
abbrev pub IsRegionEntered : Table → Option RowId → Type 0
IsRegionEntered table region = ForSome region (IsEntered table)

-- May a slot whose topmost row is in this region take a row of that region?
abbrev pub is_allowed : Isolation → Table → (top : Option RowId) → (region : Option RowId) → Bool
is_allowed mode table None region = true
is_allowed Exact table (Some r) region = same_region (Some r) region
is_allowed Within table (Some r) region = is_within table region r

-- the rows that the slot may take, oldest first
abbrev pub eligible : Ready → Table → (top : Option RowId) → List Waiting
eligible pool table top = filter (λ w. is_allowed pool.isolation table top w.region) pool.rows

abbrev pub is_made_on : ℕ → Option ℕ → Bool
is_made_on slot None = false
is_made_on slot (Some t) = t == slot

abbrev pub first_of : List Waiting → Option RowId
first_of [] = None
first_of (w ∷ ws) = Some w.row

abbrev pub last_or : Option RowId → List Waiting → Option RowId
last_or row [] = row
last_or row (w ∷ ws) = last_or (Some w.row) ws

-- the newest row that the slot may take and that was made on it; if there is none, the oldest that it may take
abbrev pub pick : Ready → Table → (slot : ℕ) → (top : Option RowId) → Option RowId
pick pool table slot top = last_or (first_of (eligible pool table top)) (filter (λ w. is_made_on slot w.made_on) (eligible pool table top))
