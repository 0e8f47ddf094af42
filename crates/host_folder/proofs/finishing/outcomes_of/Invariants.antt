use Rattle.std.proofs.Common.{◌≡◌, take, map}
use Rattle.job_outcomes.specs.Outcomes.{outcome_seen}
use Rattle.host_folder.specs.Finishing.{outcome_outside}
use Rattle.host_folder.proofs.finishing.outcomes_of.Given as goal

abbrev pub invariant-loop-outcome : goal.invariant-loop-outcome
invariant-loop-outcome l = l.outcomes.items ≡ map (outcome_outside l.base) (map outcome_seen (take l.outcome-index l.outcome-items))
