use Rattle.std.proofs.Common.{drop}
use Rattle.std.proofs.lemmas.List.{drop_all}
use Rattle.job_json.specs.CanonicalText.{instr_then, proc_then}
use Rattle.part_writer.proofs.Added.{begun, closed, item_added}
use Rattle.part_writer.proofs.jobs.add_instrs.Goals as goal

pub loop-instr-init : goal.loop-instr-init
loop-instr-init c = begun instr_then c.args.instrs.now c.args.text.now.items c.add_bytes.new.text.items c.in_ok-add_bytes.ensures

pub loop-instr-preserved : goal.loop-instr-preserved
loop-instr-preserved c =
    item_added instr_then c.args.instrs.now c.loop-instr.instr-index c.instr-item.result
    c.args.text.now.items c.loop-instr.text.items c.add_comma.new.text.items c.add_instr.new.text.items c.loop-instr.is_later (proc_then c.args.instrs.now)
    c.loop-instr-test.true c.instr-item.is c.loop-instr.invariant c.in_ok-add_comma.ensures c.in_ok-add_instr.ensures

pub returns : goal.returns
returns c =
    closed instr_then c.args.text.now.items c.loop-instr.text.items c.add_bytes-2.new.text.items c.loop-instr.is_later (drop c.loop-instr.instr-index c.args.instrs.now) (proc_then c.args.instrs.now)
    (drop_all c.loop-instr.instr-index c.args.instrs.now c.loop-instr-test.false) c.loop-instr.invariant c.in_ok-add_bytes-2.ensures
