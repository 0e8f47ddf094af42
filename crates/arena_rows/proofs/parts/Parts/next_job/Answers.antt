use Rattle.std.proofs.Common.{◌≡◌, ap, arith}
use Rattle.arena_rows.specs.Held.{Held}
use Rattle.arena_rows.proofs.JobPlaces.{held_there}
use Rattle.arena_rows.proofs.JobsTold.{known_held}
use Rattle.arena_rows.proofs.NextJob.{next_known, next_least}
use Rattle.arena_rows.proofs.parts.Parts.next_job.Goals as goal

pub returns-then-self-after : goal.returns-then-self-after
returns-then-self-after c = record {
  known = λ s is. tt;
  least = λ s j is above some.
      let made = ap (λ (h : Held). h.made_jobs) c.self.view_is in
      let there = held_there c.args.self.now s is j (known_held c.args.self.now s is j some) in
      absurd (omega (arith, made, is.made_jobs, there, c.if-self-after.true, above));
}

pub returns : goal.returns
returns c = record {
  known = λ s is. let its = c.job_from.ensures is.jobs.order in rw its (next_known c.args.self.now s is c.args.after);
  least = λ s j is above some. let its = c.job_from.ensures is.jobs.order in rw its (next_least c.args.self.now s is c.args.after j above some);
}
