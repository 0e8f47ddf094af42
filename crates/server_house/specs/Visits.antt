-- Clients whom the same doors serve, one after another.
use Rattle.std.specs.Prelude.{ℕ, ◌≡◌, ◌⊎◌, false, List, Option}
use Rattle.server_doors.specs.Sessions.{SessionSeen}
use Rattle.server_doors.specs.SessionWays.{with_thread}
use Rattle.server_doors.specs.SlotWays.{GoesHome}
use Rattle.session_core.specs.Sessions.{Serves}
use Rattle.session_core.specs.declared.serving.SessionEnd.{SessionEnd}
use Rattle.server_house.specs.Sessions.{RepliesThere}

-- The session left its slot, if it was at one.
pub record LeavesSlot (s t : SessionSeen) : Type 0 where
  pub home : GoesHome s.at.doors t.at.doors
  pub session : t ≡ with_thread s (record (s.at) { doors = t.at.doors })

-- The next client was served: what was written is what answers the lines that were read, in order, up to that end. Then
-- the session is at no slot.
pub record ServesNext (bytes unread written out : Option (List ℕ)) (old new : SessionSeen) (end : SessionEnd) : Type 0 where
  pub session : SessionSeen
  pub serves : Serves RepliesThere bytes unread written out (false, old) session end
  pub leaves : LeavesSlot session new

-- The next client was served, whatever it sent and was answered.
pub record ServesSome (old new : SessionSeen) : Type 0 where
  pub bytes : Option (List ℕ)
  pub unread : Option (List ℕ)
  pub written : Option (List ℕ)
  pub out : Option (List ℕ)
  pub end : SessionEnd
  pub serves : ServesNext bytes unread written out old new end

-- A client came and went: it was served, or there was no memory for that and the session only left its slot.
abbrev pub IsVisit : SessionSeen → SessionSeen → Type 0
IsVisit old new = ServesSome old new ⊎ LeavesSlot old new
