use Rattle.job_finish.proofs.Quiet.{all_closed, all_have_outcomes, none_moves}
use Rattle.job_finish.proofs.laws.quiet_tenants_are_done.Goals as goal
use Rattle.tenant_model.specs.Solo.{after}
use Rattle.tenant_model.specs.State.{empty}

pub returns : goal.returns
returns c = record {
  none_live = λ config xs slots reserved quiet n slot h live. none_moves (after (empty config) xs) quiet (c.no_circle_waits.ensures.moves config xs slots reserved n slot h live);
  closed = all_closed;
  outcomes = all_have_outcomes;
}
