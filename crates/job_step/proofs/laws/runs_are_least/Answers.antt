use Rattle.job_step.proofs.Least.{runs_are_least}
use Rattle.job_step.proofs.laws.runs_are_least.Goals as goal

pub returns : goal.returns
returns c = record { least = runs_are_least }
