-- What holds of a tenant's rows after any sequence of steps.
use Rattle.std.specs.Prelude.{ℕ, ◌≡◌, ◌-◌, ◌<◌, ◌≤◌, true, false, List, length, count_by, All}
use Rattle.job_language.specs.declared.instructions.TheConstants.{KEYS}
use Rattle.job_language.specs.declared.tenants.TheConstants.{MAX_SLOTS}
use Rattle.tenant_model.specs.declared.rows.Kind.TheVariants.{Region}
use Rattle.tenant_model.specs.declared.rows.Phase.TheVariants.{Live}
use Rattle.tenant_model.specs.declared.rows.Row.{Row}
use Rattle.tenant_model.specs.declared.rows.TheConstants.{MAX_HEIGHT}
use Rattle.tenant_model.specs.State.{State, row}
use Rattle.tenant_model.specs.Walks.{is_region, is_within, is_unstarted, is_live_at, mark, height}
use Rattle.tenant_model.specs.Changes.{open_rows}
use Rattle.thread_cells.specs.Cells.{Table}
use Rattle.tenant_model.specs.Linked.{IsLinked}

-- how many rows are on a slot at a height
abbrev pub rows_at : List Row → (slot height : ℕ) → ℕ
rows_at rows slot h = count_by (λ (r : Row). is_live_at slot h r.phase) rows

-- The rows on a slot have the heights from 1 to the slot's height, one at each; that height is at most 128.
pub record AreStacked (rows : List Row) : Type 0 where
  pub one_at_each : (slot h : ℕ) → 1 ≤ h → h ≤ height rows slot → rows_at rows slot h ≡ 1
  pub none_below : (slot : ℕ) → rows_at rows slot 0 ≡ 0
  pub none_above : (slot h : ℕ) → height rows slot < h → rows_at rows slot h ≡ 0
  pub low : (slot : ℕ) → height rows slot ≤ MAX_HEIGHT

-- A row above another one is within each region that the lower one is within.
abbrev pub AreInside : List Row → Type 0
AreInside rows =
    (a b slot low high q : ℕ) → (row rows a).phase ≡ Live slot low → (row rows b).phase ≡ Live slot high → low ≤ high → is_region (row rows q).kind ≡ true →
    is_within rows a q ≡ true → is_within rows b q ≡ true

-- A live region is directly above its maker; a region never waits to be started.
pub record StandOnMakers (rows : List Row) : Type 0 where
  pub started : (n m : ℕ) → (row rows n).kind ≡ Region m → is_unstarted (row rows n).phase ≡ false
  pub below : (n m slot h : ℕ) → (row rows n).kind ≡ Region m → (row rows n).phase ≡ Live slot h → (row rows m).phase ≡ Live slot (h - 1)

-- No mark exceeds the number of rows, so a row that is spawned into a group now is a member of it.
abbrev pub AreMarked : List Row → Type 0
AreMarked rows = (n g : ℕ) → (mark rows n g).rows ≤ length rows

-- a table of a cell for each key and slot
pub record IsTable (t : Table) : Type 0 where
  pub keys : length t ≡ KEYS
  pub slots : All (λ cells. length cells ≡ MAX_SLOTS) t

-- what each state that a tenant reaches is
pub record IsWellFormed (s : State) : Type 0 where
  pub linked : IsLinked s
  pub stacked : AreStacked s.rows
  pub inside : AreInside s.rows
  pub on_makers : StandOnMakers s.rows
  pub marked : AreMarked s.rows
  pub limit : open_rows s.rows ≤ s.config.rows
  pub table : IsTable s.cells
  pub slots : s.config.slots ≤ MAX_SLOTS
