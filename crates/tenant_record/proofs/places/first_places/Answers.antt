use Rattle.tenant_record.proofs.Calling.{first_more}
use Rattle.tenant_record.proofs.places.first_places.Goals as goal

pub loop-slot-preserved : goal.loop-slot-preserved
loop-slot-preserved c =
    let more = first_more c.args.tenant c.args.limit c.loop-slot.slot in
    let pushed = c.in_ok-push.ensures.items in
    let pass = c.in_ok-new.ensures in
    let before = c.loop-slot.invariant in
    cc
