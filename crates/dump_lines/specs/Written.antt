-- The JSON that the lines of a dump are. Members stand in the order of their names.
use Rattle.std.specs.Prelude.{ℕ, true, List, Option, Some, None, option_map, if◌then◌else◌, codes}
use Rattle.serde_json.specs.Data.{Data, number, unsigned, boolean, string, object, member, no_members, null}
use Rattle.job_language.specs.declared.answers.Answer.{Answer}
use Rattle.job_language.specs.declared.answers.Answer.TheVariants as answer
use Rattle.job_language.specs.declared.answers.Came.TheVariants.{At}
use Rattle.job_language.specs.declared.answers.Moved.{Moved}
use Rattle.job_language.specs.declared.answers.Moved.TheVariants.{Ran, Nested, Freed}
use Rattle.job_language.specs.declared.answers.Reply.{Reply}
use Rattle.job_language.specs.declared.answers.Reply.TheVariants as reply
use Rattle.job_language.specs.declared.answers.Status.{Status}
use Rattle.job_language.specs.declared.answers.Status.TheVariants.{Running, Cancelled, Complete, Fault}
use Rattle.job_language.specs.declared.errors.Error.{Error}
use Rattle.job_language.specs.declared.requests.Request.{Request}
use Rattle.job_language.specs.declared.requests.Request.TheVariants as request
use Rattle.job_language.specs.declared.steps.Entry.{Entry}
use Rattle.job_language.specs.declared.steps.Step.{Step}
use Rattle.job_language.specs.declared.steps.Step.TheVariants as step
use Rattle.job_language.specs.declared.tenants.Tenant.{Tenant}
use Rattle.job_language.specs.ErrorCodes.{code_of, name_of, fault_code_of}
use Rattle.job_json.specs.JobData.{job_data, number_data}
use Rattle.job_language.specs.Recorded.{is_entry}
use Rattle.job_json.specs.TenantData.{tenant_data}
use Rattle.job_language.specs.TenantWords.{level_word}

abbrev pub count_data : ℕ → Data
count_data n = number (unsigned n)

-- a request that names nothing else
abbrev pub bare_request : List ℕ → Data
bare_request op = object (member (codes "op") (string op) no_members)

abbrev pub job_request : List ℕ → Data → Data
job_request op job = object (member (codes "job") job (member (codes "op") (string op) no_members))

-- No history has a hello.
abbrev pub request_data : Request → Option Data
request_data (request.Hello name) = None
request_data (request.Submit job) = Some (job_request (codes "submit") (job_data job))
request_data (request.Execute job) = Some (job_request (codes "execute") (job_data job))
request_data (request.Poll job) = Some (job_request (codes "poll") (count_data job))
request_data (request.Collect job) = Some (job_request (codes "collect") (count_data job))
request_data (request.Cancel job) = Some (job_request (codes "cancel") (count_data job))
request_data (request.Cells key) = Some (object (member (codes "key") (count_data key) (member (codes "op") (string (codes "cells")) no_members)))
request_data request.Arena = Some (bare_request (codes "arena"))
request_data request.Retire = Some (bare_request (codes "retire"))
request_data (request.Release job) = Some (job_request (codes "release") (count_data job))
request_data (request.Take job) = Some (object (member (codes "job") (count_data job) (member (codes "op") (string (codes "collect")) (member (codes "release") (boolean true) no_members))))

abbrev pub status_data : ℕ → Status → Data
status_data job Running = object (member (codes "job") (count_data job) (member (codes "status") (string (codes "running")) no_members))
status_data job Cancelled = object (member (codes "job") (count_data job) (member (codes "status") (string (codes "canceled")) no_members))
status_data job (Complete value) = object (member (codes "job") (count_data job) (member (codes "status") (string (codes "complete")) (member (codes "value") (number_data value) no_members)))
status_data job (Fault fault) = object (member (codes "fault") (count_data (fault_code_of fault)) (member (codes "job") (count_data job) (member (codes "status") (string (codes "fault")) no_members)))

abbrev pub refusal_data : Error → Data
refusal_data error = object (member (codes "code") (count_data (code_of error)) (member (codes "error") (string (name_of error)) no_members))

-- A reply that is never an entry's is no object.
abbrev pub reply_data : Reply → Data
reply_data (reply.Bound name) = null
reply_data (reply.Made job) = object (member (codes "job") (count_data job) no_members)
reply_data (reply.Placed job slot) = object (member (codes "job") (count_data job) (member (codes "slot") (count_data slot) no_members))
reply_data (reply.Job job status) = status_data job status
reply_data (reply.Cancelled job first) = object (member (codes "first") (boolean first) (member (codes "job") (count_data job) no_members))
reply_data (reply.Cells key count sum) = object (member (codes "count") (count_data count) (member (codes "key") (count_data key) (member (codes "sum") (number_data sum) no_members)))
reply_data (reply.Arena level reserved slots) =
    object (member (codes "priority") (string (level_word level)) (member (codes "reserved") (count_data reserved) (member (codes "slots") (count_data slots) no_members)))
reply_data (reply.Epoch epoch) = object (member (codes "epoch") (count_data epoch) no_members)
reply_data (reply.Released job) = object (member (codes "released") (count_data job) no_members)
reply_data (reply.Refused error) = refusal_data error
reply_data reply.Pending = null

abbrev pub ask_data : (reply request : Data) → Data
ask_data reply request = object (member (codes "reply") reply (member (codes "request") request (member (codes "step") (string (codes "ask")) no_members)))

abbrev pub arrival_data : (slot row : ℕ) → Data
arrival_data slot row =
    object (member (codes "moved") (string (codes "arrived")) (member (codes "row") (count_data row)
    (member (codes "slot") (count_data slot) (member (codes "step") (string (codes "arrive")) no_members))))

abbrev pub bare_advance : List ℕ → ℕ → Data
bare_advance word slot = object (member (codes "moved") (string word) (member (codes "slot") (count_data slot) (member (codes "step") (string (codes "advance")) no_members)))

abbrev pub nested_advance : (slot row : ℕ) → Data
nested_advance slot row =
    object (member (codes "moved") (string (codes "nested")) (member (codes "row") (count_data row)
    (member (codes "slot") (count_data slot) (member (codes "step") (string (codes "advance")) no_members))))

abbrev pub advance_data : ℕ → Moved → Option Data
advance_data slot Ran = Some (bare_advance (codes "ran") slot)
advance_data slot Freed = Some (bare_advance (codes "freed") slot)
advance_data slot (Nested row) = Some (nested_advance slot row)
advance_data slot moved = None

abbrev pub step_data : Step → Answer → Option Data
step_data (step.Ask request) (answer.Replied reply) = option_map (ask_data (reply_data reply)) (request_data request)
step_data (step.Arrive slot) (answer.Came (At row)) = Some (arrival_data slot row)
step_data (step.Advance slot) (answer.Moved moved) = advance_data slot moved
step_data s a = None

-- Only what a history can hold is written: a step with an answer to such a step that is recorded, and no hello.
abbrev pub entry_data : Entry → Option Data
entry_data e = if is_entry e.answer then step_data e.step e.answer else None

-- the first line
abbrev pub first_data : Tenant → Data
first_data t = object (member (codes "tenant") (tenant_data t) no_members)
