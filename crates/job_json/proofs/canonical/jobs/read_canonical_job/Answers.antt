use Rattle.job_json.proofs.CanonicalTexts.{all_read}
use Rattle.job_json.proofs.canonical.jobs.read_canonical_job.Goals as goal

pub returns-then-is_empty-clause-text : goal.returns-then-is_empty-clause-text
returns-then-is_empty-clause-text c = all_read c.in_ok-job.job c.args.text.now c.job.new.self.bytes.now c.in_ok-job.ensures (c.if-is_empty.ensures)
