-- The seats that come back to a house.
use Rattle.std.specs.Prelude.{◌⊎◌, ℕ, Bool, List, Option, Result, IfOk, All, Contains}
use Rattle.std.specs.List.{AllZip}
use Rattle.job_language.specs.declared.steps.Entry.{Entry}
use Rattle.tenant_lock.specs.Closing.{Closes}
use Rattle.tenant_lock.specs.Doors.{DoorData}
use Rattle.tenant_lock.specs.declared.doors.Closed.{Closed}
use Rattle.tenant_lock.specs.declared.faults.CloseFault.{CloseFault}
use Rattle.tenant_book.specs.Fronts.{FrontData}
use Rattle.tenant_record.specs.SeatData.{SeatData}
use Rattle.session_core.specs.declared.serving.SessionEnd.{SessionEnd}
use Rattle.server_house.specs.Posts.{ClientSeen, IsClient, IsFresh}
use Rattle.server_house.specs.Sessions.{ServesClient}

-- A session gave the seat back: a client was served whose seats had asked nothing, what was written is what answers the
-- lines that were read, this is one of the client's seats, with what it noted of the session's asks, and what the session had
-- seen at its end of each tenant's history is among those fronts.
pub record IsFromSession (all : List FrontData) (s : SeatData) : Type 0 where
  pub client : ClientSeen
  pub begins : IsClient client
  pub bytes : Option (List ℕ)
  pub left : Option (List ℕ)
  pub written : Option (List ℕ)
  pub out : Option (List ℕ)
  pub seats : List SeatData
  pub end : SessionEnd
  pub fronts : List FrontData
  pub serves : ServesClient client bytes left written out seats fronts end
  pub is_one : Contains seats s
  pub told : (f : FrontData) → Contains fronts f → Contains all f

-- An unused seat, or one that a session gave back, whose fronts are among those.
abbrev pub IsGivenBack : List FrontData → SeatData → Type 0
IsGivenBack all s = IsFresh s ⊎ IsFromSession all s

-- the seats and the fronts that came back, and whether some were lost for lack of memory
pub record ReturnedSeen : Type 0 where
  pub seats : List SeatData
  pub fronts : List FrontData
  pub is_short : Bool

-- The asks in a tenant's history are those that its seats noted, seat by seat, and the seats are such ones.
pub record IsAskedBy (are : SeatData → Type 0) (d : DoorData) (history : List Entry) : Type 0 where
  pub seats : List SeatData
  pub closes : Closes d seats history
  pub each : All are seats

-- Each tenant that closes has such a history.
abbrev pub AreAskedBy : (SeatData → Type 0) → List DoorData → List (Result Closed CloseFault) → Type 0
AreAskedBy are doors ends = AllZip (λ (d : DoorData) end. IfOk end (λ (closed : Closed). IsAskedBy are d closed.history.items)) doors ends
