-- A client's session at the doors of a house.
use Rattle.std.specs.Prelude.{ℕ, ◌≡◌, Bool, false, List, Option, None}
use Rattle.job_language.specs.declared.answers.Reply.{Reply}
use Rattle.nested_wait.specs.Runs.{Attends}
use Rattle.nested_wait.specs.Turns.{Turn}
use Rattle.server_doors.specs.Sessions.{SessionSeen}
use Rattle.server_doors.specs.SlotWays.{GoesHome}
use Rattle.server_doors.specs.Slots.{SlotsSeen}
use Rattle.tenant_book.specs.Fronts.{FrontData}
use Rattle.tenant_lock.specs.Doors.{DoorData}
use Rattle.server_doors.specs.SessionWays.{Finds, Binds, Asks, WaitsFor, Sees, Commits, Advances, HasHeight, Waits}
use Rattle.session_core.specs.Replies.{Replies}
use Rattle.session_core.specs.Sessions.{Serves}
use Rattle.session_core.specs.declared.serving.SessionEnd.{SessionEnd}
use Rattle.tenant_record.specs.SeatData.{SeatData}
use Rattle.server_house.specs.Posts.{ClientSeen}

-- the session of a client that has asked nothing yet: it is at no slot
abbrev pub first_session : ClientSeen → SessionSeen
first_session c = record {
  at = record {
    ringer = record { queues = c.post.house.queues; pass = c.post.pass };
    doors = record { doors = c.post.house.doors; fronts = c.post.fronts; pass = None };
  };
  names = c.post.house.names;
  seats = c.seats;
  bound = 0;
}

-- the reply to a line at the doors of a house: each ask is by the session's seat of the tenant that it is bound to, which notes the request with this reply
abbrev pub RepliesThere : (text : List ℕ) → Bool × SessionSeen → Option Reply → Bool × SessionSeen → Type 0
RepliesThere = Replies Finds Binds Asks WaitsFor (Attends (Turn Sees Commits Advances) HasHeight Waits 1)

-- at no slot of the doors, with that seen of each tenant's history
abbrev pub at_none : List DoorData → List FrontData → SlotsSeen
at_none doors fronts = record { doors = doors; fronts = fronts; pass = None }

-- What was written is what answers the lines that were read, in order, up to that end, and the seats and what was seen are as the
-- session's asks, and then its leaving the slot that it was at, have left them.
pub record ServesClient (c : ClientSeen) (bytes left written out : Option (List ℕ)) (seats : List SeatData) (fronts : List FrontData) (end : SessionEnd) : Type 0 where
  pub session : SessionSeen
  pub serves : Serves RepliesThere bytes left written out (false, first_session c) session end
  pub seats_are : seats ≡ session.seats
  pub home : GoesHome session.at.doors (at_none session.at.doors.doors fronts)
