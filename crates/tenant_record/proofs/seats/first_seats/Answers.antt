use Rattle.std.proofs.Common.{arith}
use Rattle.std.proofs.lemmas.List.FromFn.{map-range_with_len_more}
use Rattle.tenant_record.specs.SeatData.{first_seat}
use Rattle.tenant_record.proofs.seats.first_seats.Goals as goal

pub loop-number-preserved : goal.loop-number-preserved
loop-number-preserved c =
    let more = map-range_with_len_more (first_seat c.args.tenant c.tenant.result.now.steps) 0 c.loop-number.number c.loop-number.number (omega arith) in
    let pushed = c.in_ok-push.ensures.items in
    let seat = c.in_ok-new.ensures in
    let before = c.loop-number.invariant in
    cc
