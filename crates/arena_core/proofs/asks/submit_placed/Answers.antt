use Rattle.std.proofs.Common.{◌≡◌, ◌∙◌, sym, ap, Some, None}
use Rattle.job_language.specs.declared.answers.Reply.TheVariants.{Placed}
use Rattle.tenant_model.specs.declared.rows.Phase.TheVariants.{Live}
use Rattle.tenant_model.specs.Changes.{entry}
use Rattle.tenant_model.specs.Asks.{add_job, new_job, submit_placed, free_slot}
use Rattle.arena_core.proofs.Asked.{one_more}
use Rattle.arena_core.proofs.Standing.{made_few}
use Rattle.arena_core.proofs.asks.submit_placed.Goals as goal

pub returns-in_default : goal.returns-in_default
returns-in_default c = λ s rests.
    let none : free_slot s ≡ None = sym (c.free_slot.ensures.value s rests.holds) ∙ c.in_default.is in
    rw none (c.submit.ensures s rests)

pub returns-in-Some-limit : goal.returns-in-Some-limit
returns-in-Some-limit c = λ s rests. rw (c.in-Some-limit.ensures.value s (submit_placed s c.args.job (free_slot s)) rests) (c.refuse.ensures s rests)

pub place-requires-clause-few : goal.place-requires-clause-few
place-requires-clause-few c =
    let some = c.requires.some in
    made_few c.args.parts.now some.0 some.1 c.config.ensures.valid c.requires.room

pub returns : goal.returns
returns c = λ s rests.
    let slot = c.in-Some.slot in
    let added = add_job s c.args.job (Live slot 1) in
    let after = c.enter.ensures added (c.place.ensures s rests) in
    let count = c.job_count.ensures (entry added) after.holds ∙ one_more s.jobs (new_job s c.args.job) in
    let free : free_slot s ≡ Some slot = sym (c.free_slot.ensures.value s rests.holds) ∙ c.in-Some.is in
    rw (c.in_default-limit.ensures.value s (submit_placed s c.args.job (free_slot s)) rests, free) (ap (λ number. Placed number slot) count, after)
