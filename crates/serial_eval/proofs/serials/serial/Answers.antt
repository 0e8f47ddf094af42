use Rattle.std.proofs.Common.{◌≡◌, sym, ◌∙◌, suc, ◌-◌, ◌+◌, arith}
use Rattle.serial_eval.proofs.Nests.{nest_value-zero}
use Rattle.serial_eval.proofs.serials.serial.Goals as goal

pub returns-in-Ends-clause-value : goal.returns-in-Ends-clause-value
returns-in-Ends-clause-value c =
    let one_less : suc (c.args.n - (c.loop-executed._executed + 1)) ≡ c.args.n - c.loop-executed._executed = omega (arith, c.loop-executed-test.true) in
    let turned = rw c.in-Ends.is at c.in_ok-value.ensures.turned in
    sym (turned (c.args.n - (c.loop-executed._executed + 1))) ∙ rw one_less c.loop-executed.invariant

pub returns-clause-value : goal.returns-clause-value
returns-clause-value c =
    let none_left : c.args.n - c.loop-executed._executed ≡ 0 = omega (arith, c.loop-executed-test.false) in
    sym (nest_value-zero c.args.program.now c.loop-executed.nest) ∙ rw none_left at c.loop-executed.invariant
