use Rattle.std.proofs.Common.{◌≡◌, ◌++◌, map, drop}
use Rattle.serde_json.specs.View.{view}
use Rattle.job_json.specs.JobData.{proc_data}
use Rattle.job_json.proofs.writing.jobs.write_procs.Given as goal

abbrev pub invariant-loop-proc : goal.invariant-loop-proc
invariant-loop-proc l = map view l.list.items ++ map proc_data (drop l.proc-index l.procs) ≡ map proc_data l.procs
