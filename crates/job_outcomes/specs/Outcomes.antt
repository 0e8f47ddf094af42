-- The outcomes of the jobs that a tenant holds, and what a poll of each is answered.
use Rattle.std.specs.Prelude.{ℕ, ◌==◌, Bool, List, [], ◌∷◌, ◌++◌}
use Rattle.job_language.specs.declared.answers.Reply.{Reply}
use Rattle.job_language.specs.declared.answers.Reply.TheVariants.{Job}
use Rattle.job_language.specs.declared.answers.Status.{Status}
use Rattle.job_language.specs.declared.requests.Request.TheVariants.{Poll}
use Rattle.job_outcomes.specs.declared.outcomes.JobOutcome.{JobOutcome}
use Rattle.reply_writer.specs.ReplyText.{reply_text}
use Rattle.request_reader.specs.Lines.{newline}
use Rattle.tenant_model.specs.Asks.{reply_to}
use Rattle.tenant_model.specs.State.{State}

-- a job's number with its status
abbrev pub outcome_seen : JobOutcome → ℕ × Status
outcome_seen o = (o.job, o.status)

abbrev pub is_of : ℕ → JobOutcome → Bool
is_of j o = o.job == j

-- what a poll is answered, if the history has room for it
abbrev pub polled : State → (job : ℕ) → Reply
polled s j = (reply_to s (Poll j)).0

-- the line of an outcome, which is that of the reply to a poll of the job
abbrev pub outcome_text : ℕ × Status → List ℕ
outcome_text o = reply_text (Job o.0 o.1) ++ newline ∷ []

abbrev pub outcomes_text : List (ℕ × Status) → List ℕ
outcomes_text [] = []
outcomes_text (o ∷ os) = outcome_text o ++ outcomes_text os
