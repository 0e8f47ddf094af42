use Rattle.std.proofs.Common.{sym}
use Rattle.host_terms.specs.Endings.{First, More, Gone}
use Rattle.host_terms.proofs.terms.HostTerm.outcomes.Goals as goal

pub loop-job-init : goal.loop-job-init
loop-job-init g c = (sym c.in-Some.ensures, rw c.new-outcomes.ensures.items First)

pub loop-job-preserved-in_ok-push : goal.loop-job-preserved-in_ok-push
loop-job-preserved-in_ok-push g c =
    let more = More c.loop-job.invariant.1 c.in-Some-next_job.ensures c.in-Some-outcome.ensures in
    (c.loop-job.invariant.0, rw c.in_ok-push.ensures.items more)

pub loop-job-preserved : goal.loop-job-preserved
loop-job-preserved g c = (c.loop-job.invariant.0, Gone c.loop-job.invariant.1 c.in-Some-next_job.ensures c.in_default-outcome.ensures)
