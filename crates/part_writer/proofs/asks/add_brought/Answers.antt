use Rattle.std.proofs.Common.{◌++◌, ◌∙◌}
use Rattle.job_json.specs.CanonicalText.{job_then}
use Rattle.part_writer.proofs.asks.add_brought.Goals as goal

pub returns : goal.returns
returns c = λ rest. c.in_ok-add_bytes-2.ensures rest ∙ c.in_ok-add_job.ensures (c.args.behind.now ++ rest) ∙ c.in_ok-add_bytes.ensures (job_then c.args.job.now (c.args.behind.now ++ rest))
