use Rattle.std.proofs.Common.{arith}
use Rattle.job_json.proofs.RoundTripJob.{job_of-job_data}
use Rattle.job_json.proofs.writing.jobs.write_job.Goals as goal

pub returns-clause-reads_back : goal.returns-clause-reads_back
returns-clause-reads_back c =
    let args = c.in_ok-args.ensures in
    rw (c.in_ok-value.ensures, args.value, c.instructions-fuel.ensures.value, c.in_ok-procs.ensures, c.procs.ensures.value)
    (job_of-job_data c.args.job.now (rw args.value at args.reads_back) (omega arith) (omega arith) c.procs.ensures.valid)
