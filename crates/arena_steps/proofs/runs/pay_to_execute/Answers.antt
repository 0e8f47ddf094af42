use Rattle.std.proofs.Common.{◌+◌, subst}
use Rattle.tenant_model.specs.Shared.{execute}
use Rattle.tenant_model.specs.Advance.{pay, with_fuel_paid}
use Rattle.arena_rows.specs.Represents.{Gives}
use Rattle.arena_steps.specs.Ready.{CanExecute}
use Rattle.arena_steps.proofs.Paying.{is_poor_by, is_rich_by, poor_gives, rich_gives, paid_top, paid_ready}
use Rattle.arena_steps.proofs.runs.pay_to_execute.Goals as goal

pub fault-requires-clause-top : goal.fault-requires-clause-top
fault-requires-clause-top c =
    let h : CanExecute c.args.parts.now c.args.slot c.args.frame c.args.instr.now = c.requires.ready in
    let it = c.pay.ensures.pays h.0 h.1 h.2.fits.rests h.2.fits.on_top in
    paid_top c.args.parts.now c.pay.new.self h.0 c.args.slot h.1 (c.from.result + 1) h.2.fits.rests h.2.fits.on_top it.1

pub returns-then-not-pay : goal.returns-then-not-pay
returns-then-not-pay c = λ s n ready.
    let it = c.pay.ensures.pays s n ready.fits.rests ready.fits.on_top in
    let lacked = is_poor_by s n (c.from.result + 1) c.pay.result it.0 c.if-not-pay.true in
    subst (λ k. Gives c.fault.new.self c.fault.result (pay s c.args.slot n (k + 1) (λ t. execute t c.args.slot n c.args.frame c.args.instr.now))) c.from.ensures
    (poor_gives c.fault.new.self c.fault.result s c.args.slot n (c.from.result + 1) (λ t. execute t c.args.slot n c.args.frame c.args.instr.now) lacked
    (c.fault.ensures (with_fuel_paid s n (c.from.result + 1)) n it.1.holds ready.fits.on_top))

pub execute-requires-clause-ready : goal.execute-requires-clause-ready
execute-requires-clause-ready c =
    let h : CanExecute c.args.parts.now c.args.slot c.args.frame c.args.instr.now = c.requires.ready in
    let it = c.pay.ensures.pays h.0 h.1 h.2.fits.rests h.2.fits.on_top in (
      with_fuel_paid h.0 h.1 (c.from.result + 1),
      h.1,
      paid_ready c.args.parts.now c.pay.new.self h.0 c.args.slot h.1 (c.from.result + 1) h.2.fits.rests h.2.fits.on_top it.1 c.args.frame c.args.instr.now h.2,
    )

pub returns : goal.returns
returns c = λ s n ready.
    let it = c.pay.ensures.pays s n ready.fits.rests ready.fits.on_top in
    let sufficed = is_rich_by s n (c.from.result + 1) c.pay.result it.0 c.if-not-pay.false in
    let now = paid_ready c.args.parts.now c.pay.new.self s c.args.slot n (c.from.result + 1) ready.fits.rests ready.fits.on_top it.1 c.args.frame c.args.instr.now ready in
    subst (λ k. Gives c.execute.new.parts c.execute.result (pay s c.args.slot n (k + 1) (λ t. execute t c.args.slot n c.args.frame c.args.instr.now))) c.from.ensures
    (rich_gives c.execute.new.parts c.execute.result s c.args.slot n (c.from.result + 1) (λ t. execute t c.args.slot n c.args.frame c.args.instr.now) sufficed
    (c.execute.ensures (with_fuel_paid s n (c.from.result + 1)) n now))
