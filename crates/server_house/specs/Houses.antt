-- The tenants of a house, at its start and at its end.
use Rattle.std.specs.Prelude.{ℕ, ◌≡◌, ◌==◌, Bool, List, [], ◌∷◌, Option, Some, None, Result, IfOk, IfErr, map, filter}
use Rattle.std.specs.List.{AllZip, enumerate_from, flat_map}
use Rattle.job_language.specs.declared.steps.Entry.{Entry}
use Rattle.job_language.specs.declared.tenants.Tenant.{Tenant}
use Rattle.tenant_model.specs.State.{empty}
use Rattle.tenant_model.specs.Regions.{KeepsRegions}
use Rattle.serial_law.specs.SerialValues.{KeepsSerialValues}
use Rattle.tenant_record.specs.History.{IsHistory, steps_of}
use Rattle.tenant_record.specs.SeatData.{SeatData, first_seats}
use Rattle.tenant_lock.specs.Closing.{Closes, IsRefused}
use Rattle.tenant_book.specs.Fronts.{FrontData}
use Rattle.tenant_lock.specs.Doors.{AreBegun, DoorData}
use Rattle.tenant_lock.specs.declared.doors.Closed.{Closed}
use Rattle.tenant_lock.specs.declared.faults.CloseFault.{CloseFault}

-- a door, whatever the number of its tenant's life is
abbrev pub plain : DoorData → DoorData
plain d = record d { life = 0 }

-- the door of the tenant of a number, with its seats
abbrev pub door_of : (seats : ℕ) → ℕ × Tenant → DoorData
door_of seats t = record { life = 0; tenant = t.0; config = t.1; seats = seats }

-- the doors of tenants, which are numbered from 0
abbrev pub doors_of : (seats : ℕ) → List Tenant → List DoorData
doors_of seats tenants = map (door_of seats) (enumerate_from 0 tenants)

-- They are the doors of these tenants, whatever the numbers of their lives are.
abbrev pub AreDoorsOf : (seats : ℕ) → List Tenant → List DoorData → Type 0
AreDoorsOf seats tenants doors = map plain doors ≡ doors_of seats tenants

-- all their seats, which have asked nothing yet, those of tenant 0 first
abbrev pub seats_of : (seats : ℕ) → List Tenant → List SeatData
seats_of seats tenants = flat_map (λ (t : ℕ × Tenant). first_seats t.0 t.1.steps seats) (enumerate_from 0 tenants)

-- the life of the first tenant behind these doors, if there is one
abbrev pub first_life : List DoorData → Option ℕ
first_life [] = None
first_life (d ∷ doors) = Some d.life

-- the name of the first tenant behind these doors, if there is one
abbrev pub first_name : List DoorData → Option (List ℕ)
first_name [] = None
first_name (d ∷ doors) = Some d.config.name

-- Is it a seat of that tenant?
abbrev pub is_of : ℕ → SeatData → Bool
is_of tenant s = s.tenant == tenant

-- A history is a tenant's own: its answers are those that the plain evaluator gives to its steps, regions protect the tenant's cells in it, and serial jobs that complete have their serial values.
pub record IsOwnHistory (c : Tenant) (history : List Entry) : Type 0 where
  pub replays : IsHistory c history
  pub regions : KeepsRegions (empty c) (steps_of history)
  pub serial : KeepsSerialValues (empty c) (steps_of history)

-- How a tenant is closed with these seats: with its own history, with which they and all passes agree, or for a fault.
pub record IsEnd (d : DoorData) (seats : List SeatData) (end : Result Closed CloseFault) : Type 0 where
  pub closed : IfOk end (λ closed. Closes d seats closed.history.items)
  pub own : IfOk end (λ closed. IsOwnHistory d.config closed.history.items)
  pub refused : IfErr end (λ fault. IsRefused d seats fault)

-- What was seen of the tenant's life begins the history that it closes with.
abbrev pub IsSeenIn : List FrontData → DoorData → Result Closed CloseFault → Type 0
IsSeenIn fronts d end = IfOk end (λ closed. AreBegun d.life fronts closed.history.items)

-- So it is of each tenant.
abbrev pub AreSeenIn : List FrontData → List DoorData → List (Result Closed CloseFault) → Type 0
AreSeenIn fronts doors ends = AllZip (λ (d : DoorData) end. IsSeenIn fronts d end) doors ends

-- Each tenant is closed with its own seats of those that came back.
abbrev pub AreEnds : List DoorData → List SeatData → List (Result Closed CloseFault) → Type 0
AreEnds doors seats ends = AllZip (λ (d : DoorData) end. IsEnd d (filter (is_of d.tenant) seats) end) doors ends
