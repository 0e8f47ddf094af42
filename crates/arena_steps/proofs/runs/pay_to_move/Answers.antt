use Rattle.std.proofs.Common.{subst}
use Rattle.tenant_model.specs.Changes.{finish_step, with_frame}
use Rattle.tenant_model.specs.Advance.{pay, with_fuel_paid}
use Rattle.arena_rows.specs.Represents.{Gives}
use Rattle.arena_steps.specs.Frames.{CanMove}
use Rattle.arena_steps.proofs.Paying.{is_poor_by, is_rich_by, poor_gives, rich_gives, paid_top, paid_fits}
use Rattle.arena_steps.proofs.runs.pay_to_move.Goals as goal

pub fault-requires-clause-top : goal.fault-requires-clause-top
fault-requires-clause-top c =
    let h : CanMove c.args.parts.now c.args.slot c.args.frame = c.requires.fits in
    let it = c.pay.ensures.pays h.0 h.1 h.2.rests h.2.on_top in
    paid_top c.args.parts.now c.pay.new.self h.0 c.args.slot h.1 c.from.result h.2.rests h.2.on_top it.1

pub returns-then-not-pay : goal.returns-then-not-pay
returns-then-not-pay c = λ s n fits.
    let it = c.pay.ensures.pays s n fits.rests fits.on_top in
    let lacked = is_poor_by s n c.from.result c.pay.result it.0 c.if-not-pay.true in
    subst (λ k. Gives c.fault.new.self c.fault.result (pay s c.args.slot n k (λ t. finish_step c.args.slot (with_frame t n c.args.frame)))) c.from.ensures
    (poor_gives c.fault.new.self c.fault.result s c.args.slot n c.from.result (λ t. finish_step c.args.slot (with_frame t n c.args.frame)) lacked
    (c.fault.ensures (with_fuel_paid s n c.from.result) n it.1.holds fits.on_top))

pub move_to-requires-clause-fits : goal.move_to-requires-clause-fits
move_to-requires-clause-fits c =
    let h : CanMove c.args.parts.now c.args.slot c.args.frame = c.requires.fits in
    let it = c.pay.ensures.pays h.0 h.1 h.2.rests h.2.on_top in
    (with_fuel_paid h.0 h.1 c.from.result, h.1, paid_fits c.args.parts.now c.pay.new.self h.0 c.args.slot h.1 c.from.result h.2.rests h.2.on_top it.1 c.args.frame h.2)

pub returns : goal.returns
returns c = λ s n fits.
    let it = c.pay.ensures.pays s n fits.rests fits.on_top in
    let sufficed = is_rich_by s n c.from.result c.pay.result it.0 c.if-not-pay.false in
    let now = paid_fits c.args.parts.now c.pay.new.self s c.args.slot n c.from.result fits.rests fits.on_top it.1 c.args.frame fits in
    subst (λ k. Gives c.move_to.new.parts c.move_to.result (pay s c.args.slot n k (λ t. finish_step c.args.slot (with_frame t n c.args.frame)))) c.from.ensures
    (rich_gives c.move_to.new.parts c.move_to.result s c.args.slot n c.from.result (λ t. finish_step c.args.slot (with_frame t n c.args.frame)) sufficed
    (c.move_to.ensures (with_fuel_paid s n c.from.result) n now))
