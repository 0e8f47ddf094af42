-- What a tenant replies of the job of a source, and the line of that.
use Rattle.std.specs.Prelude.{◌≡◌, ◌⊎◌, ◌<◌, ◌+◌, ◌-◌, ℕ, ℤ, Bool, true, false, List, [], ◌∷◌, replicate}
use Rattle.job_language.specs.Recorded.{is_entry}
use Rattle.job_language.specs.Serial.{is_serial}
use Rattle.job_language.specs.declared.answers.Answer.TheVariants.{Replied}
use Rattle.job_language.specs.declared.answers.Reply.{Reply}
use Rattle.job_language.specs.declared.answers.Reply.TheVariants as reply
use Rattle.job_language.specs.declared.answers.Status.TheVariants.{Complete}
use Rattle.job_language.specs.declared.jobs.Job.{Job}
use Rattle.job_language.specs.declared.requests.Request.TheVariants.{Execute, Poll}
use Rattle.job_language.specs.declared.steps.Step.{Step}
use Rattle.job_language.specs.declared.steps.Step.TheVariants.{Ask, Advance}
use Rattle.job_language.specs.declared.tenants.Tenant.{Tenant}
use Rattle.job_language.specs.declared.tenants.TheConstants.{MAX_STEPS}
use Rattle.reply_writer.specs.AnswerText.{answer_text}
use Rattle.tenant_model.specs.State.{State, empty}
use Rattle.tenant_model.specs.Asks.{ask}
use Rattle.tenant_model.specs.Solo.{step, after}
use Rattle.source_tokens.specs.Givens.{Givens}
use Rattle.arena_compile.specs.Jobs.{IsProgramOf}
use Rattle.source_value.specs.TextValues.{HasValue}

-- the job is executed, and slot 0 advanced so often
abbrev pub steps_of : Job → (advances : ℕ) → List Step
steps_of job advances = Ask (Execute job) ∷ replicate advances (Advance 0)

-- whether slot 0 moves if it is advanced behind so many advances
abbrev pub moves_at : State → ℕ → Bool
moves_at s i = is_entry (step (after s (replicate i (Advance 0))) (Advance 0)).0

-- Slot 0 is advanced until it does not move, or as often as a history has entries: each advance but the last one moves it.
pub record GoesToItsEnd (s : State) (advances : ℕ) : Type 0 where
  pub moved : (i : ℕ) → i + 1 < advances → moves_at s i ≡ true
  pub ends : (advances ≡ MAX_STEPS) ⊎ ((0 < advances) × (moves_at s (advances - 1) ≡ false))

-- A new tenant executes a serial job of the text, with these arguments and this fuel, and replies this when it is asked for it; if it replies that the job is complete, the value is the text's.
pub record IsReplyOf (c : Tenant) (gs : Givens) (text : List ℕ) (args : List ℤ) (fuel : ℕ) (given : Reply) : Type 0 where
  pub job : Job
  pub program : IsProgramOf gs text job.program
  pub serial : is_serial job.program ≡ true
  pub arguments : job.args ≡ args
  pub fuelled : job.fuel ≡ fuel
  pub advances : ℕ
  pub all : GoesToItsEnd (after (empty c) (steps_of job 0)) advances
  pub replied : given ≡ (ask (after (empty c) (steps_of job advances)) (Poll 1)).0
  pub value : (v : ℤ) → given ≡ reply.Job 1 (Complete v) → HasValue gs text args v

-- It is the line of such a reply.
pub record IsReplyLineOf (c : Tenant) (gs : Givens) (text : List ℕ) (args : List ℤ) (fuel : ℕ) (line : List ℕ) : Type 0 where
  pub given : Reply
  pub reply : IsReplyOf c gs text args fuel given
  pub written : line ≡ answer_text (Replied given)
