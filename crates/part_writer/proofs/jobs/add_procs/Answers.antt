use Rattle.std.proofs.Common.{List, drop, subst}
use Rattle.std.proofs.lemmas.List.{drop_all}
use Rattle.job_language.specs.declared.instructions.Instr.{Instr}
use Rattle.job_json.specs.CanonicalText.{proc_then, program_then}
use Rattle.part_writer.specs.Added.{Adds}
use Rattle.part_writer.proofs.Added.{begun, closed, item_added}
use Rattle.part_writer.proofs.jobs.add_procs.Goals as goal

pub loop-proc-init : goal.loop-proc-init
loop-proc-init c = begun proc_then c.args.procs.now c.args.text.now.items c.add_bytes.new.text.items c.in_ok-add_bytes.ensures

pub loop-proc-preserved : goal.loop-proc-preserved
loop-proc-preserved c =
    item_added proc_then c.args.procs.now c.loop-proc.proc-index c.proc-item.result
    c.args.text.now.items c.loop-proc.text.items c.add_comma.new.text.items c.add_instrs.new.text.items c.loop-proc.is_later (program_then c.args.procs.now)
    c.loop-proc-test.true c.proc-item.is c.loop-proc.invariant c.in_ok-add_comma.ensures
    (subst (λ (p : List Instr). Adds c.add_comma.new.text.items c.add_instrs.new.text.items (proc_then p)) c.instrs.ensures.value c.in_ok-add_instrs.ensures)

pub returns : goal.returns
returns c =
    closed proc_then c.args.text.now.items c.loop-proc.text.items c.add_bytes-2.new.text.items c.loop-proc.is_later (drop c.loop-proc.proc-index c.args.procs.now) (program_then c.args.procs.now)
    (drop_all c.loop-proc.proc-index c.args.procs.now c.loop-proc-test.false) c.loop-proc.invariant c.in_ok-add_bytes-2.ensures
