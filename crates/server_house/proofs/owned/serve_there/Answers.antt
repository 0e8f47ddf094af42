use Rattle.std.proofs.Common.{◌≡◌, List, None, ap, subst, sym, ◌∙◌}
use Rattle.server_doors.specs.Slots.{AreFronts, SlotsSeen}
use Rattle.tenant_book.specs.Fronts.{FrontData}
use Rattle.tenant_lock.specs.Doors.{DoorData}
use Rattle.worker_main.specs.Visits.{told}
use Rattle.worker_main.specs.Works.{ServesCall}
use Rattle.server_house.specs.Workers.{ways_there}
use Rattle.server_house.proofs.KeptWorkers.{call_kept}
use Rattle.server_house.proofs.owned.serve_there.Goals as goal

-- at no slot of these tenants
abbrev outside : List FrontData → List DoorData → SlotsSeen
outside fronts doors = record { doors = doors; fronts = fronts; pass = None }

pub returns-clause-fronts : goal.returns-clause-fronts
returns-clause-fronts g c =
    let queues = c.house.inside.queues in
    let called = c.serve_call-pass.result in
    let heard = told (g.S.Signal.stops c.args.signal.now) (g.S.Signal.looked c.args.signal.now) in
    let begins : c.new-slots.result ≡ outside c.args.fronts.items c.house.inside.doors.items = c.new-slots.ensures ∙ ap (outside c.args.fronts.items) c.as_slice.ensures.value in
    let same = call_kept c.args.visiting heard called.2 (record { ringer = record { queues = queues; pass = c.args.pass }; doors = c.new-slots.result })
    (record { ringer = record { queues = queues; pass = called.0 }; doors = called.1 }) c.serve_call-pass.ensures.serves in
    rw (← c.house.view_is) (subst (λ (doors : List DoorData). AreFronts doors c.end-fronts.result.items) (same ∙ ap (λ (s : SlotsSeen). s.doors) begins) c.end-fronts.ensures.fronts)

pub returns-clause-serves : goal.returns-clause-serves
returns-clause-serves g c =
    let queues = c.house.inside.queues in
    let called = c.serve_call-pass.result in
    let begins : c.new-slots.result ≡ outside c.args.fronts.items c.house.inside.doors.items = c.new-slots.ensures ∙ ap (outside c.args.fronts.items) c.as_slice.ensures.value in
    rw (← c.house.view_is) (record {
      last = record { ringer = record { queues = queues; pass = called.0 }; doors = called.1 };
      serves = subst (λ (slots : SlotsSeen). ServesCall ways_there c.args.visiting (told (g.S.Signal.stops c.args.signal.now) (g.S.Signal.looked c.args.signal.now)) called.2
          (record { ringer = record { queues = queues; pass = c.args.pass }; doors = slots }) (record { ringer = record { queues = queues; pass = called.0 }; doors = called.1 })) begins
          c.serve_call-pass.ensures.serves;
      home = c.end-fronts.ensures.home;
    })
