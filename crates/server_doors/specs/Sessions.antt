-- One session at the doors of tenants.
use Rattle.std.specs.Prelude.{ℕ, ◌≡◌, ◌≤◌, ◌<◌, List, length, map, slice_index_or}
use Rattle.tenant_record.specs.SeatData.{SeatData}
use Rattle.server_doors.specs.Slots.{SlotsSeen}
use Rattle.worker_main.specs.Slots.{SlotSeen}

-- where its thread is, the names of the tenants and the session's seat of each, and the number of the tenant that it is bound to
pub record SessionSeen : Type 0 where
  pub at : SlotSeen SlotsSeen
  pub names : List (List ℕ)
  pub seats : List SeatData
  pub bound : ℕ

-- Each seat is of the tenant with its number.
abbrev pub AreOwn : List SeatData → Type 0
AreOwn seats = (k : ℕ) (s : SeatData) → k < length seats → (slice_index_or seats k s).tenant ≡ k

-- There is a seat of each tenant, and a level of the queues for each, and the names are the tenants' own, in order.
pub record IsSession (s : SessionSeen) : Type 0 where
  pub seats : length s.seats ≡ length s.at.doors.doors
  pub own : AreOwn s.seats
  pub level : length s.at.doors.doors ≤ length s.at.ringer.queues.config
  pub names : s.names ≡ map (λ d. d.config.name) s.at.doors.doors
