-- The places of threads in a server.
use Rattle.std.specs.Prelude.{ℕ, ◌<◌, ◌≡◌, ◌≢◌, false, List, [], length, All}
use Rattle.call_queues.specs.Queues.{PassSeen}
use Rattle.server_doors.specs.Sessions.{AreOwn}
use Rattle.server_doors.specs.Slots.{AreFronts}
use Rattle.tenant_book.specs.Fronts.{FrontData}
use Rattle.server_house.specs.Shared.{SharedSeen, ArePassesOf}
use Rattle.tenant_record.specs.SeatData.{SeatData}

-- the house, and the passes that no thread has yet
pub record PostsSeen : Type 0 where
  pub house : SharedSeen
  pub passes : List PassSeen

-- one thread's pass of the house's queues, and what the thread has seen of each tenant's history
pub record PostSeen : Type 0 where
  pub house : SharedSeen
  pub pass : PassSeen
  pub fronts : List FrontData

-- one session's pass, and its seat of each tenant
pub record ClientSeen : Type 0 where
  pub post : PostSeen
  pub seats : List SeatData

abbrev pub IsPosts : PostsSeen → Type 0
IsPosts p = ArePassesOf p.house.queues.queues p.passes

pub record IsPost (p : PostSeen) : Type 0 where
  pub pass : p.pass.queues ≡ p.house.queues.queues
  pub fronts : AreFronts p.house.doors p.fronts

-- Nothing was asked by the seat.
pub record IsFresh (s : SeatData) : Type 0 where
  pub log : s.log ≡ []
  pub full : s.full ≡ false

-- One of the first so many tenants has none of the seats.
pub record LacksOne (tenants : ℕ) (seats : List SeatData) : Type 0 where
  pub tenant : ℕ
  pub is_one : tenant < tenants
  pub lacks : All (λ (s : SeatData). s.tenant ≢ tenant) seats

-- There is an unused seat of each tenant of the house.
pub record IsClient (c : ClientSeen) : Type 0 where
  pub seats : length c.seats ≡ length c.post.house.doors
  pub own : AreOwn c.seats
  pub fresh : All IsFresh c.seats
