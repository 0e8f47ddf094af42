use Rattle.std.proofs.Common.{◌≡◌, length}
use Rattle.arena_rows.specs.Retiring.{HoldJobs}
use Rattle.arena_rows.proofs.retiring.release_jobs.Given as goal

abbrev pub invariant-loop-job : goal.invariant-loop-job
invariant-loop-job l = record {
  hold : HoldJobs l.rows.contexts l.jobs l.job-index;
  long : length l.rows.contexts ≡ length l.fn.rows.contexts;
  table : l.rows.table ≡ l.fn.rows.table;
}
