use Rattle.std.proofs.Common.{◌≡◌, List, None, ap, subst, ◌∙◌}
use Rattle.server_doors.specs.Slots.{SlotsSeen}
use Rattle.tenant_book.specs.Fronts.{FrontData}
use Rattle.tenant_lock.specs.Doors.{DoorData}
use Rattle.worker_main.specs.Visits.{told}
use Rattle.worker_main.specs.Works.{Works}
use Rattle.server_house.specs.Workers.{ways_there}
use Rattle.server_house.proofs.sessions.serve_calls.Goals as goal

-- at no slot of these tenants
abbrev outside : List FrontData → List DoorData → SlotsSeen
outside fronts doors = record { doors = doors; fronts = fronts; pass = None }

pub returns : goal.returns
returns g c =
    let begins : c.new-slots.result ≡ outside c.post.inside.fronts.items c.house.inside.doors.items = c.new-slots.ensures ∙ ap (outside c.post.inside.fronts.items) c.as_slice.ensures.value in
    rw (← c.post.view_is) (rw (← c.house.view_is) (record {
      last = record { ringer = record { queues = c.house.inside.queues; pass = c.worker-pass.result.0 }; doors = c.worker-pass.result.1 };
      works = subst (λ (slots : SlotsSeen). Works ways_there c.args.visiting (told (g.S.Signal.stops c.args.signal.now) (g.S.Signal.looked c.args.signal.now))
          (record { ringer = record { queues = c.house.inside.queues; pass = c.post.inside.pass }; doors = slots })
          (record { ringer = record { queues = c.house.inside.queues; pass = c.worker-pass.result.0 }; doors = c.worker-pass.result.1 })) begins c.worker-pass.ensures.works;
    }))
