-- Rows that wait, and the place that is left for the row of a round.
use Rattle.std.specs.Prelude.{◌≡◌, ◌≤◌, ◌<◌, ℕ, All, Option, length}
use Rattle.job_language.specs.declared.tenants.TheConstants.{MAX_ROWS, MAX_SLOTS}
use Rattle.region_tag.specs.declared.row_id.RowId.{RowId}
use Rattle.region_tag.specs.Region.{Table}
use Rattle.ready_pool.specs.declared.pool.Waiting.{Waiting}
use Rattle.ready_pool.specs.Ready.{Ready, IsRegionEntered}

pub record WaitingSeen : Type 0 where
  pub pool : Ready
  pub regions : Table
  pub region : Option RowId
  pub free : ℕ

-- The rows that wait are at the places before the free one, at most one at each, and their numbers are no greater than that place. The regions are entered.
pub record AreWaiting (w : WaitingSeen) : Type 0 where
  pub limit : w.pool.limit ≤ MAX_ROWS
  pub slots : w.pool.slots ≡ MAX_SLOTS
  pub place : w.free < w.pool.limit
  pub count : length w.pool.rows ≤ w.free
  pub before : All (λ (v : Waiting). v.row.place < w.free) w.pool.rows
  pub numbers : All (λ (v : Waiting). v.row.number ≤ w.free) w.pool.rows
  pub places : length w.regions ≡ w.pool.limit
  pub region : IsRegionEntered w.regions w.region
  pub regions_entered : All (λ (v : Waiting). IsRegionEntered w.regions v.region) w.pool.rows
