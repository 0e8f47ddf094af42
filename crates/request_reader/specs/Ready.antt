-- What is asked, with its job read.
use Rattle.std.specs.Prelude.{Result, Ok, Err}
use Rattle.job_language.specs.declared.errors.Error.{Error}
use Rattle.job_language.specs.declared.errors.Error.TheVariants.{BadProgram}
use Rattle.job_json.specs.declared.errors.Place.{Place}
use Rattle.job_language.specs.declared.jobs.Job.{Job}
use Rattle.job_language.specs.declared.requests.Request.{Request}
use Rattle.job_language.specs.declared.requests.Request.TheVariants.{Submit, Execute}
use Rattle.job_json.specs.Job.{job_of}
use Rattle.request_reader.specs.Asks.{AskedData, plain, submit, execute}

-- a job, or error 4
abbrev pub job_or_refused : Result Job Place → Result Job Error
job_or_refused (Ok job) = Ok job
job_or_refused (Err place) = Err BadProgram

abbrev pub with_job : (Job → Request) → Result Job Place → Result Request Error
with_job request (Ok job) = Ok (request job)
with_job request (Err place) = Err BadProgram

abbrev pub ready_of : AskedData → Result Request Error
ready_of (plain request) = Ok request
ready_of (submit job) = with_job (λ j. Submit j) (job_of job)
ready_of (execute job) = with_job (λ j. Execute j) (job_of job)
