use Rattle.source_rows.proofs.WorkedProofs.{root_is_answered, summing_is_compiled, tasks_are_made}
use Rattle.source_rows.proofs.laws.worked_example.Goals as goal

pub returns : goal.returns
returns c = record { compiled = summing_is_compiled; root = root_is_answered; tasks = tasks_are_made }
