use Rattle.std.proofs.Common.{◌∙◌, Some, sym, subst}
use Rattle.job_outcomes.proofs.Held.{IsNext, all_held, next_held}
use Rattle.job_outcomes.proofs.outcomes.JobOutcomes.of.Goals as goal
use Rattle.tenant_record.specs.Replayed.{state_of}

pub jobs-preserved-in_ok-push : goal.jobs-preserved-in_ok-push
jobs-preserved-in_ok-push c =
    let s = state_of c.args.replay.now in
    let last = c.jobs.last in
    let next : IsNext s last (Some c.in-Some.job) = subst (IsNext s last) c.in-Some.is c.next_job.ensures.least in
    let known = c.in-Some.ensures.known in
    rw c.in_ok-push.ensures.items (next_held s last c.jobs.held.items c.jobs.invariant c.in-Some.job c.in-Some-status.status known.0 known.1 next (sym c.status.ensures ∙ c.in-Some-status.is))

pub returns : goal.returns
returns c =
    let s = state_of c.args.replay.now in
    all_held s c.jobs.last c.jobs.held.items c.jobs.invariant (subst (IsNext s c.jobs.last) c.in_default.is c.next_job.ensures.least)
