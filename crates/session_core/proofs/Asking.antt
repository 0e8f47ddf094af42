-- Requests that are answered at once.
use Rattle.std.proofs.Common.{◌≡◌, ℕ, Bool, Some, refl, inl, inr}
use Rattle.job_language.specs.declared.jobs.Job.{Job}
use Rattle.job_language.specs.declared.requests.Request.{Request}
use Rattle.job_language.specs.declared.requests.Request.TheVariants.{Hello, Submit, Execute, Poll, Collect, Cancel, Cells, Arena, Retire, Release, Take}
use Rattle.nested_wait.specs.declared.attending.Attended.{Attended}
use Rattle.session_core.specs.declared.doors.Answered.{Answered}
use Rattle.session_core.specs.Replies.{RepliesTo}
use Rattle.job_language.specs.Collecting.{IsCollect}

module _ {D : Type 0} (asks : D → Request → Answered → D → Type 0) (waits : D → ℕ → Bool → D → Type 0) (attends : Attended → D → D → Type 0) where
  pub replies_other : (request : Request) (a : Answered) (d e : D) → ((job : Job) → request ≡ Execute job → ⊥) → (IsCollect request → ⊥) → asks d request a e →
      RepliesTo asks waits attends request (Some a.reply) d e
  replies_other (Hello name) a d e not_execute not_collect asked = (a.reply, (refl, (a.placed, asked)))
  replies_other (Submit job) a d e not_execute not_collect asked = (a.reply, (refl, (a.placed, asked)))
  replies_other (Execute job) a d e not_execute not_collect asked = absurd (not_execute job refl)
  replies_other (Poll job) a d e not_execute not_collect asked = (a.reply, (refl, (a.placed, asked)))
  replies_other (Collect job) a d e not_execute not_collect asked = absurd (not_collect (job, inl refl))
  replies_other (Cancel job) a d e not_execute not_collect asked = (a.reply, (refl, (a.placed, asked)))
  replies_other (Cells key) a d e not_execute not_collect asked = (a.reply, (refl, (a.placed, asked)))
  replies_other Arena a d e not_execute not_collect asked = (a.reply, (refl, (a.placed, asked)))
  replies_other Retire a d e not_execute not_collect asked = (a.reply, (refl, (a.placed, asked)))
  replies_other (Release job) a d e not_execute not_collect asked = (a.reply, (refl, (a.placed, asked)))
  replies_other (Take job) a d e not_execute not_collect asked = absurd (not_collect (job, inr refl))
