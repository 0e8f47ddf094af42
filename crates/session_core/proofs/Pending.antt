-- Collects, one after another.
use Rattle.std.proofs.Common.{◌≡◌, ℕ, suc, ◌+◌, Bool, false, subst, arith}
use Rattle.job_language.specs.declared.answers.Reply.{Reply}
use Rattle.job_language.specs.declared.answers.Reply.TheVariants as reply
use Rattle.job_language.specs.declared.requests.Request.{Request}
use Rattle.session_core.specs.declared.doors.Answered.{Answered}
use Rattle.session_core.specs.Waiting.{collecting, Gives, Pends}

module _ {D : Type 0} (asks : D → Request → Answered → D → Type 0) (waits : D → ℕ → Bool → D → Type 0) where
  -- an answer with that reply
  pub gives : (request : Request) (r : Reply) (a : Answered) (d e : D) → a.reply ≡ r → asks d request a e → Gives asks request r d e
  gives request r a d e is asked = (a.placed, subst (λ x. asks d request (record { reply = x; placed = a.placed }) e) is asked)

  pub pends_more : (releases : Bool) (job n : ℕ) (d f g e : D) → Pends asks waits releases job n d f → Gives asks (collecting releases job) reply.Pending f g → waits g job false e →
      Pends asks waits releases job (n + 1) d e
  pends_more releases job n d f g e so_far pending goes_on =
      let next : suc n ≡ n + 1 = omega arith in
      subst (λ k. Pends asks waits releases job k d e) next (f, g, (so_far, pending, goes_on))
