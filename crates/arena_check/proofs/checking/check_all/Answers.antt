use Rattle.std.proofs.Common.{◌+◌, ◌∙◌}
use Rattle.tenant_model.specs.Solo.{step}
use Rattle.solo_eval.specs.declared.checking.Verdict.TheVariants.{No}
use Rattle.solo_eval.proofs.Verdicts.{verdict_after, verdict_here}
use Rattle.arena_check.proofs.Entries.{answered_on, right_as, wrong_as}
use Rattle.arena_check.proofs.checking.check_all.Goals as goal

pub returns-then-not-is_recorded-clause-verdict : goal.returns-then-not-is_recorded-clause-verdict
returns-then-not-is_recorded-clause-verdict c = λ first stands.
    let so_far = c.loop-index.invariant first stands in
    let s = so_far.0 in
    let e = c.index-entries-index.result in
    let taken = c.in_ok-answer.ensures.ok s so_far.1 in
    let wrong = wrong_as s e c.in_ok-answer.answer c.is_recorded.result taken.0 c.is_recorded.ensures c.if-not-is_recorded.true in
    so_far.2 (No (c.loop-index.index + 1)) (verdict_here s c.args.entries.now c.loop-index.index e c.loop-index-test.true c.index-entries-index.is wrong)

pub loop-index-preserved : goal.loop-index-preserved
loop-index-preserved c = λ first stands.
    let so_far = c.loop-index.invariant first stands in
    let s = so_far.0 in
    let e = c.index-entries-index.result in
    let es = c.args.entries.now in
    let taken = c.in_ok-answer.ensures.ok s so_far.1 in
    let right = right_as s e c.in_ok-answer.answer c.is_recorded.result taken.0 c.is_recorded.ensures c.if-not-is_recorded.false in (
      (step s e.step).1,
      taken.1,
      λ verdict others. so_far.2 verdict (verdict_after s es c.loop-index.index e c.loop-index-test.true c.index-entries-index.is right verdict others),
      so_far.3 ∙ answered_on s es c.loop-index.index e c.loop-index-test.true c.index-entries-index.is right.answer,
    )
