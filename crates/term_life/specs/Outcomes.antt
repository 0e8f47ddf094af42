-- The outcomes of jobs whose term is closed. Jobs have their numbers outside of their terms.
use Rattle.std.specs.Prelude.{ℕ, ◌==◌, ◌&&◌, Bool, true, false, not, List, [], ◌∷◌, ◌++◌, Option, Some, None, option_map, option_and_then, map, filter, find, length, nat_lt, nat_le, drop}
use Rattle.std.specs.Prelude.{if◌then◌else◌}
use Rattle.job_language.specs.declared.answers.Reply.{Reply}
use Rattle.job_language.specs.declared.answers.Reply.TheVariants as reply
use Rattle.job_language.specs.declared.answers.Status.{Status}
use Rattle.job_language.specs.declared.answers.Status.TheVariants as status
use Rattle.job_language.specs.declared.errors.Error.TheVariants as error
use Rattle.job_language.specs.declared.requests.Request.{Request}
use Rattle.job_language.specs.declared.requests.Request.TheVariants.{Take, Release, Cancel}
use Rattle.term_life.specs.declared.outcomes.Outcome.{Outcome}
use Rattle.term_life.specs.declared.spans.Span.{Span}
use Rattle.term_life.specs.Spans.{has_job}

-- a term that is closed, and of its jobs how far those are that are neither retired nor released
pub record Ended : Type 0 where
  pub span : Span
  pub outcomes : List Outcome

-- the terms that were closed last, the oldest first, and how many are kept at most
pub record Kept : Type 0 where
  pub keep : ℕ
  pub ended : List Ended

abbrev pub is_of : (job : ℕ) → Outcome → Bool
is_of job o = o.job == job

abbrev pub is_running_status : Status → Bool
is_running_status status.Running = true
is_running_status s = false

-- It has no outcome.
abbrev pub is_running : Outcome → Bool
is_running o = is_running_status o.status

-- Is it the term of that job?
abbrev pub is_term_of : (job : ℕ) → Ended → Bool
is_term_of job e = has_job job e.span

abbrev pub status_in : (job : ℕ) → Ended → Option Status
status_in job e = option_map (λ o. o.status) (find (is_of job) e.outcomes)

-- how far a job is, if it is known
abbrev pub status_of : (job : ℕ) → Kept → Option Status
status_of job k = option_and_then (status_in job) (find (is_term_of job) k.ended)

abbrev pub is_release : Request → Bool
is_release (Take job) = true
is_release (Release job) = true
is_release request = false

abbrev pub answered_by : Request → (job : ℕ) → Status → Reply
answered_by (Release it) job s = reply.Released job
answered_by (Cancel it) job s = reply.Cancelled job false
answered_by request job s = reply.Job job s

-- The reply to a request about a job. One without an outcome never gets it: its history was full.
abbrev pub answered : Request → (job : ℕ) → Option Status → Reply
answered request job None = reply.Refused error.UnknownJob
answered request job (Some status.Running) = reply.Refused error.HistoryFull
answered request job (Some s) = answered_by request job s

abbrev pub has_outcome : Option Status → Bool
has_outcome None = false
has_outcome (Some s) = not (is_running_status s)

-- Is the job released by the request?
abbrev pub is_released : Request → (job : ℕ) → Kept → Bool
is_released request job k = is_release request && has_outcome (status_of job k)

abbrev pub without : (job : ℕ) → Ended → Ended
without job e = record e { outcomes = filter (λ o. not (is_of job o)) e.outcomes }

-- a job of that term is forgotten
abbrev pub forgetting : (job : ℕ) → Ended → Ended
forgetting job e = if is_term_of job e then without job e else e

-- once a request about a job was answered
abbrev pub after : Request → (job : ℕ) → Kept → Kept
after request job k = if is_released request job k then record k { ended = map (forgetting job) k.ended } else k

-- all but the oldest one, if there are too many
abbrev pub newest : (keep : ℕ) → List Ended → List Ended
newest keep es = if nat_lt keep (length es) then drop 1 es else es

-- with one more term
abbrev pub with_ended : Span → List Outcome → Kept → Kept
with_ended s os k = record k { ended = newest k.keep (k.ended ++ record { span = s; outcomes = os } ∷ []) }

abbrev pub is_from : (number : ℕ) → Ended → Bool
is_from number e = nat_le number e.span.number

-- only the terms from that number on
abbrev pub cleared : (number : ℕ) → Kept → Kept
cleared number k = record k { ended = filter (is_from number) k.ended }

abbrev pub has_none : Ended → Bool
has_none e = length e.outcomes == 0
