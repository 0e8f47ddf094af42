-- What the fields of what a lock keeps say.
use Rattle.std.specs.Prelude.{ℕ, ◌≡◌, Bool, true, false, Option}
use Rattle.tenant_book.specs.Fronts.{FrontData, IsLast}
use Rattle.tenant_record.specs.Cell.{CellData, IsAttended}
use Rattle.tenant_lock.specs.Awaited.{are_open}
use Rattle.tenant_lock.specs.Pauses.{has_to_stop}
use Rattle.tenant_lock.specs.Sleepers.{HeldData, IsIdle, is_in, marks}
use Rattle.tenant_lock.specs.declared.awaited.AwaitedJobs.{AwaitedJobs}
use Rattle.tenant_lock.specs.declared.waits.Sleepers.{Sleepers}

abbrev pub held_data : (life : ℕ) → CellData → (is_stopped : Bool) → Sleepers → Option AwaitedJobs → HeldData
held_data life cell is_stopped waiting awaited = record { life = life; cell = cell; is_stopped = is_stopped; noted = marks waiting.noted; awaited = awaited }

-- Nobody sleeps at a slot at which there is something to do, or for a job that is noted and has its outcome, and a slot with
-- rows on it is not left to itself.
pub record IsWatched (cell : CellData) (is_stopped : Bool) (waiting : Sleepers) (awaited : Option AwaitedJobs) : Type 0 where
  pub slots : (slot : ℕ) → is_in (marks waiting.noted) slot ≡ true → IsIdle cell (has_to_stop is_stopped cell) slot
  pub jobs : are_open cell (has_to_stop is_stopped cell) awaited ≡ true
  -- Unless those who wait have to stop, a slot with rows on it is out.
  pub attended : has_to_stop is_stopped cell ≡ false → IsAttended cell

-- The cell is the last moment of its life.
pub record IsNoted (whole : FrontData) (cell : CellData) : Type 0 where
  pub last : IsLast whole.log cell
  pub config_is : cell.config ≡ whole.config
