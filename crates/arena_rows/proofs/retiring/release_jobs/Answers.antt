use Rattle.std.proofs.Common.{◌≡◌, length, refl, ap, ◌∙◌, arith}
use Rattle.cancel_context.proofs.Released.{length-without}
use Rattle.cancel_context.specs.Forest.{without}
use Rattle.arena_rows.specs.OpenRows.{OpenRows}
use Rattle.arena_rows.proofs.Retired.{hold-released}
use Rattle.arena_rows.proofs.retiring.release_jobs.Goals as goal

pub loop-job-init : goal.loop-job-init
loop-job-init c = record { hold = c.requires; long = refl; table = refl }

pub release-requires-clause-held : goal.release-requires-clause-held
release-requires-clause-held c =
    let item = c.job-item.is in
    rw item (c.loop-job.invariant.hold.each c.loop-job.job-index c.job-item.result (omega arith) c.loop-job-test.true)

pub release-requires-clause-ends : goal.release-requires-clause-ends
release-requires-clause-ends c = λ d bound. absurd (c.loop-job.invariant.hold.bare d c.job-item.result.context bound)

pub loop-job-preserved : goal.loop-job-preserved
loop-job-preserved c =
    let released : c.release.new.self.contexts ≡ without c.loop-job.rows.contexts c.job-item.result.context = ap (λ (r : OpenRows). r.contexts) c.release.ensures.released in record {
      hold = hold-released c.loop-job.rows.contexts c.release.new.self.contexts c.args.jobs.now c.loop-job.job-index c.job-item.result c.job-item.is c.loop-job-test.true c.loop-job.invariant.hold
          released c.release.ensures.keeps c.release.ensures.count;
      long = ap length released ∙ length-without c.loop-job.rows.contexts c.job-item.result.context ∙ c.loop-job.invariant.long;
      table = ap (λ (r : OpenRows). r.table) c.release.ensures.released ∙ c.loop-job.invariant.table;
    }

pub returns-clause-none : goal.returns-clause-none
returns-clause-none c = omega (arith, c.loop-job.invariant.hold.count, c.loop-job-test.false, c.loop-job.auto.job-index-end)

pub returns-clause-long : goal.returns-clause-long
returns-clause-long c = c.loop-job.invariant.long
