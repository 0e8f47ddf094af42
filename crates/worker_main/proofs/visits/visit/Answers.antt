use Rattle.std.proofs.Common.{arith}
use Rattle.worker_main.specs.Slots.{ways}
use Rattle.worker_main.specs.Visits.{told}
use Rattle.worker_main.proofs.Rounds.{again_more, ends_left, ends_home, ends_told, ends_long}
use Rattle.worker_main.proofs.visits.visit.Goals as goal

pub returns-then-not-may_go_on : goal.returns-then-not-may_go_on
returns-then-not-may_go_on g c =
    let w = ways g.D.SlotAccess.views g.D.SlotAccess.commits g.D.SlotAccess.advances g.D.SlotAccess.heights g.D.SlotAccess.pauses g.D.SlotAccess.homes g.D.SlotAccess.hands g.D.WorkerAccess.arrives in
    let l = told (g.S.Signal.stops c.args.signal.now) (g.S.Signal.looked c.args.signal.now) in
    ends_told w c.args.visiting l c.loop-round.round c.args.door.now c.loop-round.door c.give_home.new.self c.loop-round.invariant (c.may_go_on.ensures.stops c.if-not-may_go_on.true)
    c.give_home.ensures

pub returns-in-Left : goal.returns-in-Left
returns-in-Left g c =
    let w = ways g.D.SlotAccess.views g.D.SlotAccess.commits g.D.SlotAccess.advances g.D.SlotAccess.heights g.D.SlotAccess.pauses g.D.SlotAccess.homes g.D.SlotAccess.hands g.D.WorkerAccess.arrives in
    let l = told (g.S.Signal.stops c.args.signal.now) (g.S.Signal.looked c.args.signal.now) in
    ends_left w c.args.visiting l c.loop-round.round c.args.door.now c.loop-round.door c.take_round.new.door c.take_round.result c.loop-round.invariant
    (c.may_go_on.ensures.goes c.if-not-may_go_on.false) c.in-Left.is c.take_round.ensures

pub returns-in-Ended : goal.returns-in-Ended
returns-in-Ended g c =
    let w = ways g.D.SlotAccess.views g.D.SlotAccess.commits g.D.SlotAccess.advances g.D.SlotAccess.heights g.D.SlotAccess.pauses g.D.SlotAccess.homes g.D.SlotAccess.hands g.D.WorkerAccess.arrives in
    let l = told (g.S.Signal.stops c.args.signal.now) (g.S.Signal.looked c.args.signal.now) in
    ends_home w c.args.visiting l c.loop-round.round c.args.door.now c.loop-round.door c.take_round.new.door c.give_home-in-Ended.new.self c.take_round.result c.loop-round.invariant
    (c.may_go_on.ensures.goes c.if-not-may_go_on.false) c.in-Ended.is c.take_round.ensures c.give_home-in-Ended.ensures

pub loop-round-preserved : goal.loop-round-preserved
loop-round-preserved g c =
    let w = ways g.D.SlotAccess.views g.D.SlotAccess.commits g.D.SlotAccess.advances g.D.SlotAccess.heights g.D.SlotAccess.pauses g.D.SlotAccess.homes g.D.SlotAccess.hands g.D.WorkerAccess.arrives in
    let l = told (g.S.Signal.stops c.args.signal.now) (g.S.Signal.looked c.args.signal.now) in
    again_more w c.args.visiting l c.loop-round.round c.args.door.now c.loop-round.door c.take_round.new.door c.take_round.result c.loop-round.invariant
    (c.may_go_on.ensures.goes c.if-not-may_go_on.false) c.in-Again.is c.take_round.ensures

pub returns : goal.returns
returns g c =
    let w = ways g.D.SlotAccess.views g.D.SlotAccess.commits g.D.SlotAccess.advances g.D.SlotAccess.heights g.D.SlotAccess.pauses g.D.SlotAccess.homes g.D.SlotAccess.hands g.D.WorkerAccess.arrives in
    let l = told (g.S.Signal.stops c.args.signal.now) (g.S.Signal.looked c.args.signal.now) in
    ends_long w c.args.visiting l c.loop-round.round c.args.door.now c.loop-round.door c.give_home-2.new.self c.loop-round.invariant (omega (arith, c.loop-round-test.false)) c.give_home-2.ensures
