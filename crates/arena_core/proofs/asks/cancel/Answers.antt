use Rattle.std.proofs.Common.{◌∙◌, sym, ap, Some}
use Rattle.job_language.specs.declared.answers.Reply.TheVariants.{Cancelled}
use Rattle.tenant_model.specs.Changes.{on_job}
use Rattle.tenant_model.specs.Asks.{known_job}
use Rattle.arena_rows.specs.HeldChanges.{cancelled_work}
use Rattle.arena_core.proofs.Asked.{cancel_first, cancel_again, known_some}
use Rattle.arena_core.proofs.asks.cancel.Goals.{then-is_first, else-is_first}
use Rattle.arena_core.proofs.asks.cancel.Goals as goal

pub enter_and_settle-requires-clause-held : goal.enter_and_settle-requires-clause-held
enter_and_settle-requires-clause-held c =
    let some = c.requires.some in
    (on_job some.0 c.args.number cancelled_work, c.cancel_job.ensures some.0 some.1.rests.holds)

pub cancel_job-requires : goal.cancel_job-requires
cancel_job-requires c =
    let some = c.requires.some in
    (some.0, some.1.rests.holds, known_some some.0 c.args.number (known_job some.0 c.args.number) c.in-Some.is_first (sym (c.is_first_cancel.ensures some.0 some.1.rests.holds) ∙ c.in-Some.is))

pub returns : goal.returns
returns c = λ s rests.
    let j = c.args.number in
    let told = sym (c.is_first_cancel.ensures s rests.holds) ∙ c.in-Some.is in
    elim c.if-is_first.branch [
      | then-is_first w ↦
          let first = told ∙ ap Some w.if-is_first.true in
          let asked = w.cancel_job.ensures s rests.holds in
          rw (cancel_first s j (known_job s j) first, w.parts-is) (ap (Cancelled j) w.if-is_first.true, w.enter_and_settle.ensures (on_job s j cancelled_work) asked)
      | else-is_first w ↦
          let again = told ∙ ap Some w.if-is_first.false in
          rw (cancel_again s j (known_job s j) again, w.parts-is) (ap (Cancelled j) w.if-is_first.false, w.enter.ensures s rests)
    ]
