-- How a server ends, by how its tenants were closed.
use Rattle.std.specs.Prelude.{ℕ, ◌≡◌, List, Result, IfOk, is_ok, if◌then◌else◌}
use Rattle.std.specs.List.{AllZip, list_all}
use Rattle.job_language.specs.declared.tenants.Tenant.{Tenant}
use Rattle.server_house.specs.Houses.{AreEnds, AreSeenIn, IsOwnHistory}
use Rattle.server_house.specs.Houses as houses
use Rattle.server_house.specs.Returned.{AreAskedBy, IsGivenBack, ReturnedSeen}
use Rattle.server_io.specs.declared.ends.ServerEnd.{ServerEnd}
use Rattle.server_io.specs.declared.ends.ServerEnd.TheVariants.{Close, Done}
use Rattle.tenant_lock.specs.Doors.{DoorData}
use Rattle.tenant_lock.specs.declared.doors.Closed.{Closed}
use Rattle.tenant_lock.specs.declared.faults.CloseFault.{CloseFault}

-- The doors are those of these tenants, in order.
pub record AreDoorsOf (tenants : List Tenant) (doors : List DoorData) : Type 0 where
  pub seats : ℕ
  pub are : houses.AreDoorsOf seats tenants doors

-- If the tenant closed, it did so with a history of its own.
abbrev pub IsOwnEnd : Tenant → Result Closed CloseFault → Type 0
IsOwnEnd t end = IfOk end (λ closed. IsOwnHistory t closed.history.items)

-- These are the ends of these tenants, in order.
abbrev pub AreOwnEnds : List Tenant → List (Result Closed CloseFault) → Type 0
AreOwnEnds tenants ends = AllZip IsOwnEnd tenants ends

-- well if all tenants closed, and else with a close fault
abbrev pub end_of_all : List (Result Closed CloseFault) → ServerEnd
end_of_all ends = if list_all is_ok ends then Done else Close

-- The tenants of these doors were closed with the seats that came back: the asks in the history of each are those of its
-- sessions, each of which wrote the replies that answer the lines it read, and what each had seen begins the history. The
-- server ends as the closes ask.
pub record EndsAs (doors : List DoorData) (back : ReturnedSeen) (end : ServerEnd) : Type 0 where
  pub ends : List (Result Closed CloseFault)
  pub are : AreEnds doors back.seats ends
  pub sessions : AreAskedBy (IsGivenBack back.fronts) doors ends
  pub seen : AreSeenIn back.fronts doors ends
  pub end_is : end ≡ end_of_all ends
