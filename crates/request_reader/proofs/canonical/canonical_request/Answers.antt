use Rattle.std.proofs.Common.{◌++◌, ℕ, List, codes, ap, ◌∙◌}
use Rattle.job_json.specs.JobData.{job_data}
use Rattle.request_reader.proofs.CanonicalLines.{executes, submits}
use Rattle.request_reader.proofs.canonical.canonical_request.Goals as goal

pub returns-in-Some : goal.returns-in-Some
returns-in-Some c =
    let job = c.in_ok-job in
    executes c.args.line.now (job_data job.job) job.ensures.canonical job.ensures.line c.requires
    (c.in-Some.ensures ∙ ap (λ (text : List ℕ). codes "{\"job\":" ++ (text ++ codes ",\"op\":\"execute\"}")) job.ensures.text)

pub returns : goal.returns
returns c =
    let job = c.in_ok-job-2 in
    submits c.args.line.now (job_data job.job) job.ensures.canonical job.ensures.line c.requires
    (c.in_ok-text.ensures ∙ ap (λ (text : List ℕ). codes "{\"job\":" ++ (text ++ codes ",\"op\":\"submit\"}")) job.ensures.text)
