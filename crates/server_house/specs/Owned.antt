-- Threads that keep a house alive: they come to it for one ask, or for one call, at a time.
use Rattle.std.specs.Prelude.{ℕ, zero, suc, ◌≡◌, ◌⊎◌, Bool, MatchBool, Contains, List, Option, Some, None, length}
use Rattle.job_language.specs.declared.requests.Request.{Request}
use Rattle.nested_wait.specs.Runs.{Attends}
use Rattle.nested_wait.specs.Turns.{Turn}
use Rattle.nested_wait.specs.declared.attending.Attended.{Attended}
use Rattle.server_doors.specs.Sessions.{AreOwn, SessionSeen}
use Rattle.server_doors.specs.SessionWays as session
use Rattle.server_doors.specs.SessionWays.{Sees, Commits, Advances, HasHeight, Waits}
use Rattle.server_doors.specs.SlotWays.{GoesHome}
use Rattle.tenant_book.specs.Fronts.{FrontData}
use Rattle.session_core.specs.Calls.{Asks, AttendsTo}
use Rattle.server_doors.specs.Slots.{AreFronts, SlotsSeen}
use Rattle.tenant_record.specs.SeatData.{SeatData}
use Rattle.worker_main.specs.Slots.{SlotSeen}
use Rattle.worker_main.specs.Visits.{Told}
use Rattle.worker_main.specs.Works.{ServesCall}
use Rattle.worker_main.specs.declared.visiting.Visiting.{Visiting}
use Rattle.server_house.specs.Posts.{ClientSeen, IsClient, IsFresh, IsPost, PostSeen}
use Rattle.server_house.specs.Sessions.{at_none, first_session}
use Rattle.server_house.specs.Shared.{SharedSeen}
use Rattle.call_queues.specs.Queues.{PassSeen}
use Rattle.server_house.specs.Workers.{first_worker, ways_there}
use Rattle.server_house.specs.declared.owned.Told.{Told as AskTold}

-- a client of a house by a pass of its queues, what it has seen of each tenant's history, and these seats
abbrev pub client_of : SharedSeen → PassSeen → List FrontData → List SeatData → ClientSeen
client_of house pass fronts seats = record { post = record { house = house; pass = pass; fronts = fronts }; seats = seats }

-- a post of a house by a pass of its queues and what was seen of each tenant's history
abbrev pub post_of : SharedSeen → PassSeen → List FrontData → PostSeen
post_of house pass fronts = record { house = house; pass = pass; fronts = fronts }

-- A place in a house: the pass is of its queues, the fronts are of its tenants' lives, and there is a seat of each tenant.
pub record IsPlace (house : SharedSeen) (p : PassSeen) (seen : List FrontData) (own : List SeatData) : Type 0 where
  pub queues : p.queues ≡ house.queues.queues
  pub fronts : AreFronts house.doors seen
  pub count : length own ≡ length house.doors
  pub seats : AreOwn own

-- The slot that a job was placed on is attended until it is free, or that is stopped; nothing else is.
abbrev pub AttendsIf : {D : Type 0} → AttendsTo D → (placed : Bool) → Option Attended → D → D → Type 0
AttendsIf {D = D} attends placed how d e =
    MatchBool placed ((ended : Attended) × ((how ≡ Some ended) × attends ended d e)) ((how ≡ None) × (e ≡ d))

-- an ask with this answer, and then the slot that its job was placed on
abbrev pub AsksAndAttends : {D : Type 0} → Asks D → AttendsTo D → Request → AskTold → D → D → Type 0
AsksAndAttends {D = D} asks attends request told d e =
    (placed : Bool) × (mid : D) × (asks d request (record { reply = told.reply; placed = placed }) mid × AttendsIf attends placed told.attended mid e)

-- An ask of the house's first tenant by the client's seat, which notes it with this reply, and goes on from what was seen.
pub record AsksThere (c : ClientSeen) (request : Request) (told : AskTold) (d : ClientSeen) : Type 0 where
  pub last : SessionSeen
  pub asks : AsksAndAttends session.Asks (Attends (Turn Sees Commits Advances) HasHeight Waits 1) request told (first_session c) last
  pub seats : d.seats ≡ last.seats
  pub home : GoesHome last.at.doors (at_none last.at.doors.doors d.post.fronts)

-- some ask, whatever it was answered
abbrev pub AsksSome : ClientSeen → ClientSeen → Type 0
AsksSome c d = (request : Request) × (told : AskTold) × AsksThere c request told d

-- so many asks, one after another
abbrev pub AreAsks : ℕ → ClientSeen → ClientSeen → Type 0
AreAsks zero c d = d ≡ c
AreAsks (suc asks) c d = (mid : ClientSeen) × (AreAsks asks c mid × AsksSome mid d)

-- The client began with seats by which nothing had been asked, and has noted its asks since.
pub record HasAsked (c : ClientSeen) : Type 0 where
  pub client : ClientSeen
  pub begins : IsClient client
  pub count : ℕ
  pub asks : AreAsks count client c

-- Its pass is of the house's queues, it has a seat of each tenant of the house, and it has noted its asks.
pub record IsOwnClient (c : ClientSeen) : Type 0 where
  pub post : IsPost c.post
  pub seats : length c.seats ≡ length c.post.house.doors
  pub own : AreOwn c.seats
  pub asked : HasAsked c

-- The seat is one of a client's that has noted its asks.
pub record IsFromClient (s : SeatData) : Type 0 where
  pub client : ClientSeen
  pub asked : HasAsked client
  pub is_one : Contains client.seats s

-- An unused seat, or one of a client's that has noted its asks.
abbrev pub IsGivenBackByClient : SeatData → Type 0
IsGivenBackByClient s = IsFresh s ⊎ IsFromClient s

-- a call served at the slots of the post's house, and whether there was one; the post goes on from what was seen
pub record ServesThere (visiting : Visiting) (l : Told) (is_called : Bool) (p q : PostSeen) : Type 0 where
  pub last : SlotSeen SlotsSeen
  pub serves : ServesCall ways_there visiting l is_called (first_worker p) last
  pub home : GoesHome last.doors (at_none last.doors.doors q.fronts)
