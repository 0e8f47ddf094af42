use Rattle.std.proofs.Common.{arith}
use Rattle.job_json.proofs.CanonicalJobs.{canonical_job}
use Rattle.job_json.proofs.RoundTripJob.{job_of-job_data}
use Rattle.job_json.proofs.canonical.jobs.reads_back.Goals as goal

pub returns-clause-job : goal.returns-clause-job
returns-clause-job c = job_of-job_data c.args.job.now c.args_fit.ensures.spelled (omega arith) (omega arith) c.procs.ensures.valid

pub returns-clause-canonical : goal.returns-clause-canonical
returns-clause-canonical c = canonical_job c.args.job.now c.args_fit.ensures.fit (omega arith) c.procs.ensures.valid
