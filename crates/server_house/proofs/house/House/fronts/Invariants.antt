use Rattle.std.proofs.Common.{◌≡◌, ◌≤◌, ◌<◌, ℕ, length}
use Rattle.std.specs.Prelude.{slice_index_or, vec_capacity}
use Rattle.tenant_book.specs.Fronts.{FrontData}
use Rattle.tenant_lock.specs.Doors.{DoorData, IsFrontOf}
use Rattle.server_house.proofs.house.House.fronts.Given as goal

abbrev pub invariant-loop-door : goal.invariant-loop-door
invariant-loop-door g l = record {
  count : length l.fronts.items ≡ l.door-index;
  room : length l.self.doors ≤ vec_capacity l.fronts;
  each : (k : ℕ) (d : DoorData) (f : FrontData) → k < l.door-index → IsFrontOf (slice_index_or l.self.doors k d) (slice_index_or l.fronts.items k f);
}
