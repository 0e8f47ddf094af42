-- One thread at the doors of tenants.
use Rattle.std.specs.Prelude.{ℕ, ◌≡◌, ◌<◌, List, length, Option, MatchOption, slice_index_or, slice_set}
use Rattle.tenant_book.specs.Fronts.{FrontData, no_front}
use Rattle.tenant_lock.specs.Doors.{DoorData, IsFrontOf}
use Rattle.tenant_record.specs.PassData.{PassData}

-- the doors of all tenants, what the thread has seen of the history of each, and the pass of the slot that the thread is at
pub record SlotsSeen : Type 0 where
  pub doors : List DoorData
  pub fronts : List FrontData
  pub pass : Option PassData

-- Each door is that of the tenant with its number.
abbrev pub AreNumbered : List DoorData → Type 0
AreNumbered doors = (k : ℕ) (d : DoorData) → k < length doors → (slice_index_or doors k d).tenant ≡ k

-- There is a front of the life behind each door, in their order.
pub record AreFronts (doors : List DoorData) (fronts : List FrontData) : Type 0 where
  pub count : length fronts ≡ length doors
  pub each : (k : ℕ) (d : DoorData) (f : FrontData) → k < length doors → IsFrontOf (slice_index_or doors k d) (slice_index_or fronts k f)

-- The pass is of one of the tenants.
abbrev pub HasDoor : List DoorData → Option PassData → Type 0
HasDoor doors pass = MatchOption pass (Unit {0}) (λ p. p.tenant < length doors)

pub record IsAtDoors (s : SlotsSeen) : Type 0 where
  pub doors : AreNumbered s.doors
  pub fronts : AreFronts s.doors s.fronts
  pub pass : HasDoor s.doors s.pass

-- what was seen of the history of the tenant of that number
abbrev pub front_at : List FrontData → ℕ → FrontData
front_at fronts tenant = slice_index_or fronts tenant no_front

-- What was seen of a tenant's history goes on in that way, and what was seen of the others stays.
pub record SeesOn (tenant : ℕ) (before after : List FrontData) (sees : FrontData → FrontData → Type 0) : Type 0 where
  pub now : FrontData
  pub others : after ≡ slice_set before tenant now
  pub own : sees (front_at before tenant) now
