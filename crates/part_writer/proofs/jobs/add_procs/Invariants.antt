use Rattle.std.proofs.Common.{drop}
use Rattle.job_json.specs.CanonicalText.{proc_then, program_then}
use Rattle.part_writer.proofs.Added.{GoesOn}
use Rattle.part_writer.proofs.jobs.add_procs.Given as goal

abbrev pub invariant-loop-proc : goal.invariant-loop-proc
invariant-loop-proc l = GoesOn proc_then l.fn.text.items l.text.items l.is_later (drop l.proc-index l.procs) (program_then l.procs)
