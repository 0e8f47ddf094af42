-- The seats of threads.
use Rattle.std.specs.Prelude.{◌≡◌}
use Rattle.tenant_lock.specs.Doors.{DoorData}
use Rattle.tenant_record.specs.SeatData.{SeatData}

-- a seat at a tenant's door
pub record DeskSeen : Type 0 where
  pub door : DoorData
  pub seat : SeatData

-- The seat is of the door's tenant.
abbrev pub IsDesk : DeskSeen → Type 0
IsDesk d = d.seat.tenant ≡ d.door.tenant
