-- What is asked by a request that the reader gives, and whether it has a job.
use Rattle.std.specs.Prelude.{Option, Some, None}
use Rattle.serde_json.specs.View.{view}
use Rattle.job_json.specs.JobData.{job_data}
use Rattle.request_reader.specs.declared.requests.Asked.{Asked}
use Rattle.request_reader.specs.declared.requests.Asked.TheVariants.{Plain, Submit, Execute, SubmitJob, ExecuteJob}
use Rattle.request_reader.specs.Asks.{AskedData, plain, submit, execute}

abbrev pub asked_data : Asked → AskedData
asked_data (Plain request) = plain request
asked_data (Submit job) = submit (view job)
asked_data (Execute job) = execute (view job)
asked_data (SubmitJob job) = submit (job_data job)
asked_data (ExecuteJob job) = execute (job_data job)

-- a request with a job, for which memory is taken
abbrev pub HasJob : Option AskedData → Type 0
HasJob (Some (submit job)) = Unit {0}
HasJob (Some (execute job)) = Unit {0}
HasJob (Some (plain request)) = ⊥
HasJob None = ⊥
