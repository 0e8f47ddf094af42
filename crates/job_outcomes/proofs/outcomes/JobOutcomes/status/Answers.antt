use Rattle.std.proofs.Common.{◌∙◌}
use Rattle.job_outcomes.proofs.Looking.{looks_up}
use Rattle.job_outcomes.proofs.outcomes.JobOutcomes.status.Goals as goal

pub returns : goal.returns
returns c = λ s table. c.found.ensures ∙ looks_up s c.args.job c.as_slice.result.now (c.as_slice.ensures ∙ table)
