use Rattle.std.proofs.Common.{subst}
use Rattle.tenant_model.specs.State.{row}
use Rattle.tenant_model.specs.Changes.{faults}
use Rattle.tenant_model.specs.Advance.{pay, with_fuel_paid}
use Rattle.job_language.specs.declared.errors.JobFault.TheVariants as fault
use Rattle.arena_rows.specs.Represents.{Gives}
use Rattle.arena_steps.proofs.Paying.{is_poor_by, is_rich_by, poor_gives, rich_gives, paid_top, paid_room}
use Rattle.arena_steps.proofs.runs.pay_to_fault.Goals as goal

pub fault-requires-clause-top : goal.fault-requires-clause-top
fault-requires-clause-top c =
    let h = c.requires.top in
    let it = c.pay.ensures.pays h.0 h.1 h.2 h.3 in
    paid_top c.args.parts.now c.pay.new.self h.0 c.args.slot h.1 c.from.result h.2 h.3 it.1

pub fault-requires-clause-room : goal.fault-requires-clause-room
fault-requires-clause-room c =
    let h = c.requires.top in
    let it = c.pay.ensures.pays h.0 h.1 h.2 h.3 in
    paid_room c.args.parts.now c.pay.new.self h.0 c.args.slot h.1 c.from.result h.2 h.3 it.1 c.requires.room

pub returns-then-not-pay : goal.returns-then-not-pay
returns-then-not-pay c = λ s n rests on_top.
    let it = c.pay.ensures.pays s n rests on_top in
    let cost = c.from.ensures in
    let lacked = is_poor_by s n c.from.result c.pay.result it.0 c.if-not-pay.true in
    subst (λ k. Gives c.fault.new.self c.fault.result (pay s c.args.slot n k (λ t. faults c.args.slot (row t.rows n).job fault.Division t))) cost
    (poor_gives c.fault.new.self c.fault.result s c.args.slot n c.from.result (λ t. faults c.args.slot (row t.rows n).job fault.Division t) lacked
    (c.fault.ensures (with_fuel_paid s n c.from.result) n it.1.holds on_top))

pub fault-requires-2-clause-top : goal.fault-requires-2-clause-top
fault-requires-2-clause-top c =
    let h = c.requires.top in
    let it = c.pay.ensures.pays h.0 h.1 h.2 h.3 in
    paid_top c.args.parts.now c.pay.new.self h.0 c.args.slot h.1 c.from.result h.2 h.3 it.1

pub fault-requires-2-clause-room : goal.fault-requires-2-clause-room
fault-requires-2-clause-room c =
    let h = c.requires.top in
    let it = c.pay.ensures.pays h.0 h.1 h.2 h.3 in
    paid_room c.args.parts.now c.pay.new.self h.0 c.args.slot h.1 c.from.result h.2 h.3 it.1 c.requires.room

pub returns : goal.returns
returns c = λ s n rests on_top.
    let it = c.pay.ensures.pays s n rests on_top in
    let cost = c.from.ensures in
    let sufficed = is_rich_by s n c.from.result c.pay.result it.0 c.if-not-pay.false in
    subst (λ k. Gives c.fault-2.new.self c.fault-2.result (pay s c.args.slot n k (λ t. faults c.args.slot (row t.rows n).job fault.Division t))) cost
    (rich_gives c.fault-2.new.self c.fault-2.result s c.args.slot n c.from.result (λ t. faults c.args.slot (row t.rows n).job fault.Division t) sufficed
    (c.fault-2.ensures (with_fuel_paid s n c.from.result) n it.1.holds on_top))
