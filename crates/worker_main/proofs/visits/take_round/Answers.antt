use Rattle.std.proofs.Common.{arith}
use Rattle.worker_main.specs.Slots.{ways}
use Rattle.worker_main.proofs.Rounds.{full, paused, went_on}
use Rattle.worker_main.proofs.visits.take_round.Goals as goal

pub returns-in-Full : goal.returns-in-Full
returns-in-Full g c =
    let w = ways g.D.SlotAccess.views g.D.SlotAccess.commits g.D.SlotAccess.advances g.D.SlotAccess.heights g.D.SlotAccess.pauses g.D.SlotAccess.homes g.D.SlotAccess.hands g.D.WorkerAccess.arrives in
    full w c.args.visiting c.args.door.now c.take_turn.new.door c.height.result c.take_turn.result c.height.ensures.value (omega (arith, c.if-height-lt1.false)) c.take_turn.ensures c.in-Full.is

pub returns-in-Idle : goal.returns-in-Idle
returns-in-Idle g c =
    let w = ways g.D.SlotAccess.views g.D.SlotAccess.commits g.D.SlotAccess.advances g.D.SlotAccess.heights g.D.SlotAccess.pauses g.D.SlotAccess.homes g.D.SlotAccess.hands g.D.WorkerAccess.arrives in
    paused w c.args.visiting c.args.door.now c.take_turn.new.door c.pause.new.self c.height.result c.take_turn.result c.pause.result c.after_pause.result c.height.ensures.value
    (omega (arith, c.if-height-lt1.false)) c.take_turn.ensures c.in-Idle.is c.pause.ensures c.after_pause.ensures

pub returns-in_default : goal.returns-in_default
returns-in_default g c =
    let w = ways g.D.SlotAccess.views g.D.SlotAccess.commits g.D.SlotAccess.advances g.D.SlotAccess.heights g.D.SlotAccess.pauses g.D.SlotAccess.homes g.D.SlotAccess.hands g.D.WorkerAccess.arrives in
    went_on w c.args.visiting c.args.door.now c.take_turn.new.door c.height.result c.take_turn.result c.height.ensures.value (omega (arith, c.if-height-lt1.false)) c.take_turn.ensures
    c.in_default.not-Idle c.in_default.not-Full
