use Rattle.std.proofs.Common.{◌++◌, drop, get_or, pos, rules, FitsSigned, of_z, to_z, w64}
use Rattle.std.proofs.lemmas.Int.{to_z-of_z}
use Rattle.std.proofs.lemmas.List.{drop_all}
use Rattle.std.specs.Prelude.{true}
use Rattle.job_json.specs.CanonicalText.{number_then, operands_then}
use Rattle.part_writer.proofs.Added.{closed, number_added}
use Rattle.part_writer.proofs.instructions.add_list.Goals as goal

pub loop-operand-preserved : goal.loop-operand-preserved
loop-operand-preserved c =
    let fits : FitsSigned w64 (get_or c.args.operands.now c.loop-operand.operand-index (pos 0)) = search rules in
    number_added c.args.operands.now c.loop-operand.operand-index (to_z w64 (of_z w64 (get_or c.args.operands.now c.loop-operand.operand-index (pos 0)))) (pos 0)
    c.args.text.now.items c.loop-operand.text.items c.add_signed.new.text.items (λ rest. c.args.begin.now ++ operands_then c.args.operands.now rest)
    c.loop-operand-test.true (to_z-of_z w64 (get_or c.args.operands.now c.loop-operand.operand-index (pos 0)) fits) c.loop-operand.invariant c.in_ok-add_signed.ensures

pub returns : goal.returns
returns c =
    closed number_then c.args.text.now.items c.loop-operand.text.items c.add_bytes-2.new.text.items true
    (drop c.loop-operand.operand-index c.args.operands.now) (λ rest. c.args.begin.now ++ operands_then c.args.operands.now rest)
    (drop_all c.loop-operand.operand-index c.args.operands.now c.loop-operand-test.false) c.loop-operand.invariant c.in_ok-add_bytes-2.ensures
