use Rattle.std.specs.Prelude.{◌-◌, length}
use Rattle.job_outcomes.proofs.Held.{AreSoFar}
use Rattle.job_outcomes.proofs.outcomes.JobOutcomes.of.Given as goal
use Rattle.tenant_record.specs.Replayed.{state_of}

abbrev pub invariant-jobs : goal.invariant-jobs
invariant-jobs l = AreSoFar (state_of l.fn.replay) l.last l.held.items

abbrev pub decreases-jobs : goal.decreases-jobs
decreases-jobs l = length (state_of l.fn.replay).jobs - l.last
