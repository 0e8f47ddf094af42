-- Rows that are entered, and the place that is left for the row of a round.
use Rattle.std.specs.Prelude.{◌≡◌, ◌≤◌, ◌<◌, ℕ, None, IsSome, length, slice_index_or}
use Rattle.job_language.specs.declared.tenants.TheConstants.{MAX_ROWS}
use Rattle.region_tag.specs.declared.row_id.RowId.{RowId}
use Rattle.region_tag.specs.Region.{Table}

pub record EnteredSeen : Type 0 where
  pub regions : Table
  pub region : RowId
  pub free : ℕ

-- From the free place on no row is entered.
abbrev pub IsFreeFrom : Table → ℕ → Type 0
IsFreeFrom regions free = (place : ℕ) → free ≤ place → slice_index_or regions place None ≡ None

-- At each place before the free one a row is entered.
abbrev pub IsFullBefore : Table → ℕ → Type 0
IsFullBefore regions free = (place : ℕ) → place < free → IsSome (slice_index_or regions place None)

-- There is such a place, and the region was made before all rows of rounds.
pub record AreEntered (e : EnteredSeen) : Type 0 where
  pub place : e.free < length e.regions
  pub free : IsFreeFrom e.regions e.free
  pub full : IsFullBefore e.regions e.free
  pub region : e.region.number ≤ MAX_ROWS
