-- What all threads of a server share.
use Rattle.std.specs.Prelude.{ℕ, ◌≡◌, List, length, map, All}
use Rattle.job_language.specs.Tenant.{IsValidTenant}
use Rattle.call_queues.specs.Queues.{QueuesSeen, QueueSet, PassSeen}
use Rattle.market_config.specs.Told.{market_tenant}
use Rattle.tenant_lock.specs.Doors.{DoorData}
use Rattle.server_doors.specs.Slots.{AreNumbered}

-- the doors of all tenants, their names, and the queues of calls for workers
pub record SharedSeen : Type 0 where
  pub doors : List DoorData
  pub names : List (List ℕ)
  pub queues : QueuesSeen

-- The doors are numbered, and each is of a valid tenant. The queues have the levels and the room that these tenants' calls need. The names are the tenants' own, in order.
pub record IsShared (h : SharedSeen) : Type 0 where
  pub doors : AreNumbered h.doors
  pub tenants : All (λ (d : DoorData). IsValidTenant d.config) h.doors
  pub levels : length h.queues.config ≡ length h.doors
  pub market : h.queues.config ≡ map (λ (d : DoorData). market_tenant d.config) h.doors
  pub names : h.names ≡ map (λ (d : DoorData). d.config.name) h.doors

-- All passes are of these queues.
abbrev pub ArePassesOf : QueueSet → List PassSeen → Type 0
ArePassesOf queues passes = All (λ (p : PassSeen). p.queues ≡ queues) passes
