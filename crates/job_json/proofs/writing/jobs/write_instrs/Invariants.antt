use Rattle.std.proofs.Common.{◌≡◌, ◌++◌, map, drop}
use Rattle.serde_json.specs.View.{view}
use Rattle.job_json.specs.JobData.{instr_data}
use Rattle.job_json.proofs.writing.jobs.write_instrs.Given as goal

abbrev pub invariant-loop-instr : goal.invariant-loop-instr
invariant-loop-instr l = map view l.list.items ++ map instr_data (drop l.instr-index l.instrs) ≡ map instr_data l.instrs
