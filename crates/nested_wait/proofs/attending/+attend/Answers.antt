use Rattle.std.proofs.Common.{arith, ◌+◌}
use Rattle.nested_wait.specs.Turns.{Turn, TurnFrom}
use Rattle.nested_wait.proofs.Reaching.{goes_on, goes_on-idle, goes_on-nested, one_more, ends, passes}
use Rattle.nested_wait.proofs.attending.+attend.Goals.{in-Idle+else-pause, in-Nested+then-height-floor-2+in-Below, in-Nested+else-height-floor-2, in_default}
use Rattle.nested_wait.proofs.attending.+attend.Goals as goal

pub returns-in_default-attend : goal.returns-in_default-attend
returns-in_default-attend g t c =
    let door = g.D.Door in
    let turn = Turn door.views door.commits door.advances in
    let from = TurnFrom turn door.heights c.args.floor in
    let takes : from c.loop-turn.door c.take_turn.result c.take_turn.new.door = (c.height.result, (c.height.ensures.value, c.if-height-floor.false, c.take_turn.ensures)) in
    let goes = goes_on-nested door.pauses c.take_turn.result c.in-Nested.field-0 c.take_turn.new.door c.in-Nested.is in
    let so_far = one_more door.pauses from c.loop-turn._turn c.args.door.now c.loop-turn.door c.take_turn.new.door c.take_turn.new.door c.take_turn.result c.loop-turn.invariant takes goes in
    ends door.pauses turn door.heights c.args.floor c.height-height.result (omega (arith, c.if-height-floor-2.true)) (c.loop-turn._turn + 1) c.args.door.now c.take_turn.new.door c.attend.new.door
    so_far c.attend.result c.attend.ensures c.in_default-attend.not-Below

pub loop-turn-preserved : goal.loop-turn-preserved
loop-turn-preserved g t c =
    let door = g.D.Door in
    let turn = Turn door.views door.commits door.advances in
    let from = TurnFrom turn door.heights c.args.floor in
    let m = c.take_turn.result in
    let d = c.take_turn.new.door in
    let takes : from c.loop-turn.door m d = (c.height.result, (c.height.ensures.value, c.if-height-floor.false, c.take_turn.ensures)) in
    elim c.match-take_turn.branch [
      | in-Idle+else-pause w ↦ rw w.door-is
          (one_more door.pauses from c.loop-turn._turn c.args.door.now c.loop-turn.door d w.pause.new.self m c.loop-turn.invariant takes
          (goes_on-idle door.pauses m d w.pause.new.self w.in-Idle.is w.if-pause.ensures))
      | in-Nested+then-height-floor-2+in-Below w ↦
          let so_far = one_more door.pauses from c.loop-turn._turn c.args.door.now c.loop-turn.door d d m c.loop-turn.invariant takes
          (goes_on-nested door.pauses m w.in-Nested.field-0 d w.in-Nested.is) in
          rw w.door-is (passes door.pauses turn door.heights c.args.floor w.height-height.result (omega (arith, w.if-height-floor-2.true)) (c.loop-turn._turn + 1) c.args.door.now d w.attend.new.door
          so_far w.in-Below.ensures)
      | in-Nested+else-height-floor-2 w ↦
          rw w.door-is (one_more door.pauses from c.loop-turn._turn c.args.door.now c.loop-turn.door d d m c.loop-turn.invariant takes
          (goes_on-nested door.pauses m w.in-Nested.field-0 d w.in-Nested.is))
      | in_default w ↦ rw w.door-is (one_more door.pauses from c.loop-turn._turn c.args.door.now c.loop-turn.door d d m c.loop-turn.invariant takes
          (goes_on door.pauses m d w.in_default.not-Idle w.in_default.not-Full))
    ]
