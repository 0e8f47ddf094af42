use Rattle.std.proofs.Common.{sym}
use Rattle.job_finish.proofs.Going.{IsSeen, can_not_go, moves_on, room_taken, starts, stops}
use Rattle.job_finish.proofs.finishing.advance_slot.Goals as goal

pub moves-init : goal.moves-init
moves-init c = starts c.args.replay.now

pub returns-then-not-is_entry : goal.returns-then-not-is_entry
returns-then-not-is_entry c =
    let s = c.moves.replay in
    let t = c.advance-moved.new.self in
    let m = c.advance-moved.result in
    let plain = sym c.if-not-is_entry.ensures in
    let seen : IsSeen s t c.args.slot m =
    record { answered = c.advance-moved.ensures.answer; config = c.advance-moved.ensures.config; history = c.advance-moved.ensures.history; right = c.advance-moved.ensures.right } in
    let is = stops c.args.replay.now s t c.args.slot m c.moves.has_moved c.moves.invariant seen plain in
    record { goes = is.goes; fewer = is.fewer; stays = is.stays; still = can_not_go s t c.args.slot m seen plain }

pub moves-smaller : goal.moves-smaller
moves-smaller c =
    let s = c.moves.replay in
    let t = c.advance-moved.new.self in
    let m = c.advance-moved.result in
    let seen : IsSeen s t c.args.slot m =
    record { answered = c.advance-moved.ensures.answer; config = c.advance-moved.ensures.config; history = c.advance-moved.ensures.history; right = c.advance-moved.ensures.right } in
    room_taken s t c.args.slot m seen (sym c.if-not-is_entry.ensures)

pub moves-preserved : goal.moves-preserved
moves-preserved c =
    let s = c.moves.replay in
    let t = c.advance-moved.new.self in
    let m = c.advance-moved.result in
    let seen : IsSeen s t c.args.slot m =
    record { answered = c.advance-moved.ensures.answer; config = c.advance-moved.ensures.config; history = c.advance-moved.ensures.history; right = c.advance-moved.ensures.right } in
    moves_on c.args.replay.now s t c.args.slot m c.moves.has_moved c.moves.invariant seen (sym c.if-not-is_entry.ensures)
