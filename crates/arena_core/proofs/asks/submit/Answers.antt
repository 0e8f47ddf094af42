use Rattle.std.proofs.Common.{◌∙◌, ap}
use Rattle.job_language.specs.declared.answers.Reply.TheVariants.{Made}
use Rattle.tenant_model.specs.declared.rows.Phase.TheVariants.{Unstarted}
use Rattle.tenant_model.specs.Changes.{entry}
use Rattle.tenant_model.specs.Asks.{add_job, new_job, submit}
use Rattle.arena_core.proofs.Asked.{one_more}
use Rattle.arena_core.proofs.Standing.{made_few}
use Rattle.arena_core.proofs.asks.submit.Goals as goal

pub returns-in-Some : goal.returns-in-Some
returns-in-Some c = λ s rests. rw (c.in-Some.ensures.value s (submit s c.args.job) rests) (c.refuse.ensures s rests)

pub submit-requires-clause-few : goal.submit-requires-clause-few
submit-requires-clause-few c =
    let some = c.requires.some in
    made_few c.args.parts.now some.0 some.1 c.config.ensures.valid c.requires.room

pub returns : goal.returns
returns c = λ s rests.
    let added = add_job s c.args.job Unstarted in
    let after = c.enter.ensures added (c.submit.ensures s rests) in
    let count = c.job_count.ensures (entry added) after.holds ∙ one_more s.jobs (new_job s c.args.job) in
    rw (c.in_default.ensures.value s (submit s c.args.job) rests) (ap Made count, after)
