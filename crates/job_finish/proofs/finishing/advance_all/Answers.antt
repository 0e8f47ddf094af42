use Rattle.std.proofs.Common.{◌≡◌, ap, arith}
use Rattle.job_language.specs.declared.tenants.Tenant.{Tenant}
use Rattle.job_finish.proofs.Going.{all_at_rest, all_more, all_still, starts_all}
use Rattle.job_finish.proofs.finishing.advance_all.Goals.{then-advance_slot, else-advance_slot}
use Rattle.job_finish.proofs.finishing.advance_all.Goals as goal

pub loop-slot-init : goal.loop-slot-init
loop-slot-init c = starts_all c.args.replay.now

pub loop-slot-preserved : goal.loop-slot-preserved
loop-slot-preserved c =
    let o = c.args.replay.now in
    let s = c.loop-slot.replay in
    let t = c.advance_slot.new.replay in
    let is = c.loop-slot.invariant in
    let did = c.advance_slot.ensures in
    elim c.if-advance_slot.branch [
      | then-advance_slot w ↦ rw w.has_moved-is (all_more o s t c.loop-slot.slot c.loop-slot.has_moved is did.goes (did.fewer w.if-advance_slot.true))
      | else-advance_slot w ↦ rw w.has_moved-is (all_still o s t c.loop-slot.slot c.loop-slot.has_moved is (did.stays w.if-advance_slot.false) did.still)
    ]

pub returns : goal.returns
returns c =
    let o = c.args.replay.now in
    let s = c.loop-slot.replay in
    let is = c.loop-slot.invariant in
    let last = c.loop-slot-test.false in
    let slots : c.config.result.now.slots ≡ o.config.slots = ap (λ (t : Tenant). t.slots) c.config.ensures.value in
    record {
      goes = is.going.goes;
      fewer = is.going.fewer;
      rests = all_at_rest o s c.loop-slot.has_moved c.loop-slot.slot is c.history.ensures.right.config (omega (arith, last, slots));
    }
