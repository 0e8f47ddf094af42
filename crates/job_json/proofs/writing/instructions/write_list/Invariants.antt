use Rattle.std.proofs.Common.{◌≡◌, ◌++◌, ◌∷◌, map, drop}
use Rattle.serde_json.specs.Data.{string}
use Rattle.serde_json.specs.View.{view}
use Rattle.job_json.specs.Operation.{name_of}
use Rattle.job_json.specs.JobData.{number_data}
use Rattle.job_json.proofs.writing.instructions.write_list.Given as goal

abbrev pub invariant-loop-operand : goal.invariant-loop-operand
invariant-loop-operand l = map view l.list.items ++ map number_data (drop l.operand-index l.operands) ≡ string (name_of l.fn.operation) ∷ map number_data l.operands
