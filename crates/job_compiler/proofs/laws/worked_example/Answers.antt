use Rattle.job_compiler.proofs.WorkedProofs.{summed_is_function, summed_is_valid, summed_gives_10}
use Rattle.job_compiler.proofs.laws.worked_example.Goals as goal

pub returns : goal.returns
returns c = record { function = summed_is_function; valid = summed_is_valid; value = summed_gives_10 }
