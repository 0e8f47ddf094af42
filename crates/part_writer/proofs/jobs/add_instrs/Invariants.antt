use Rattle.std.proofs.Common.{drop}
use Rattle.job_json.specs.CanonicalText.{instr_then, proc_then}
use Rattle.part_writer.proofs.Added.{GoesOn}
use Rattle.part_writer.proofs.jobs.add_instrs.Given as goal

abbrev pub invariant-loop-instr : goal.invariant-loop-instr
invariant-loop-instr l = GoesOn instr_then l.fn.text.items l.text.items l.is_later (drop l.instr-index l.instrs) (proc_then l.instrs)
