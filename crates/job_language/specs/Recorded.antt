-- Which answers are recorded in a tenant's history.
use Rattle.std.specs.Prelude.{Bool, true, false}
use Rattle.job_language.specs.declared.answers.Answer.{Answer}
use Rattle.job_language.specs.declared.answers.Answer.TheVariants.{Replied, Came, Moved}
use Rattle.job_language.specs.declared.answers.Came.TheVariants.{At}
use Rattle.job_language.specs.declared.answers.Moved.TheVariants.{Ran, Nested, Freed}
use Rattle.job_language.specs.declared.answers.Reply.{Reply}
use Rattle.job_language.specs.declared.answers.Reply.TheVariants.{Bound, Refused, Pending}
use Rattle.job_language.specs.declared.errors.Error.{Error}
use Rattle.job_language.specs.declared.errors.Error.TheVariants.{UnknownJob, JobLimit, TaskLimit, Busy}

-- Only the arena's own refusals are recorded: not those of the reading, of the session, of memory, and not a full history.
abbrev pub is_recorded_error : Error → Bool
is_recorded_error UnknownJob = true
is_recorded_error JobLimit = true
is_recorded_error TaskLimit = true
is_recorded_error Busy = true
is_recorded_error error = false

abbrev pub is_recorded_reply : Reply → Bool
is_recorded_reply (Bound name) = false
is_recorded_reply (Refused error) = is_recorded_error error
is_recorded_reply Pending = false
is_recorded_reply reply = true

-- Is a step with this answer an entry of the history? What changes nothing is not.
abbrev pub is_entry : Answer → Bool
is_entry (Replied reply) = is_recorded_reply reply
is_entry (Came (At row)) = true
is_entry (Came came) = false
is_entry (Moved Ran) = true
is_entry (Moved (Nested row)) = true
is_entry (Moved Freed) = true
is_entry (Moved moved) = false
