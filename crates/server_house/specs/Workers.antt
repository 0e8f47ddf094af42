-- A worker at the doors of a house.
use Rattle.std.specs.Prelude.{None}
use Rattle.server_doors.specs.Slots.{SlotsSeen}
use Rattle.server_doors.specs.SlotWays.{ArrivesAt, Commits, GoesHome, HandsOver, MayHaveHeight, MayBeSeen, Moves, Pauses}
use Rattle.server_house.specs.Posts.{PostSeen}
use Rattle.worker_main.specs.Slots.{SlotSeen, Ways, ways}
use Rattle.worker_main.specs.Visits.{Told}
use Rattle.worker_main.specs.Works.{Works}
use Rattle.worker_main.specs.declared.visiting.Visiting.{Visiting}

-- what a thread may see and do at the doors of tenants
abbrev pub ways_there : Ways SlotsSeen
ways_there = ways MayBeSeen Commits Moves MayHaveHeight Pauses GoesHome HandsOver ArrivesAt

-- the worker of a post that has served no call yet: it is at no slot
abbrev pub first_worker : PostSeen → SlotSeen SlotsSeen
first_worker p = record {
  ringer = record { queues = p.house.queues; pass = p.pass };
  doors = record { doors = p.house.doors; fronts = p.fronts; pass = None };
}

-- It works at the slots of the house, as a worker does, until the signal says to stop.
pub record WorksThere (visiting : Visiting) (l : Told) (p : PostSeen) : Type 0 where
  pub last : SlotSeen SlotsSeen
  pub works : Works ways_there visiting l (first_worker p) last
