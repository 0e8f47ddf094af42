-- One step again and again.
use Rattle.std.proofs.Common.{◌≡◌, ◌∙◌, ℕ, zero, suc, ◌+◌, ◌-◌, ◌<◌, replicate, refl, sym, ap, subst, arith, inr}
use Rattle.std.specs.Prelude.{true, false}
use Rattle.job_language.specs.Recorded.{is_entry}
use Rattle.job_language.specs.declared.answers.Answer.TheVariants as answer
use Rattle.job_language.specs.declared.answers.Moved.{Moved}
use Rattle.job_language.specs.declared.steps.Step.{Step}
use Rattle.job_language.specs.declared.steps.Step.TheVariants.{Advance}
use Rattle.tenant_model.specs.Advance.{advance}
use Rattle.tenant_model.specs.State.{State}
use Rattle.source_value.specs.Replies.{moves_at, GoesToItsEnd}
use Rattle.tenant_model.specs.Solo.{step, after}

again : (s : State) (x : Step) (i : ℕ) → after s (replicate (suc i) x) ≡ (step (after s (replicate i x)) x).1
again s x zero = refl
again s x (suc i) = again (step s x).1 x i

pub once_more : (s : State) (x : Step) (i : ℕ) → after s (replicate (i + 1) x) ≡ (step (after s (replicate i x)) x).1
once_more s x i = let next : i + 1 ≡ suc i = omega arith in rw next (again s x i)

-- The advance that does not move slot 0 is the last one.
pub stopped : (s t new : State) (n : ℕ) (m : Moved) → t ≡ after s (replicate n (Advance 0)) → ((i : ℕ) → i < n → moves_at s i ≡ true) → advance t 0 ≡ (m, new) → is_entry (answer.Moved m) ≡ false
    → (k : ℕ) × GoesToItsEnd s k × (new ≡ after s (replicate k (Advance 0)))
stopped s t new n m at moved adv still =
    let here : is_entry (answer.Moved (advance t 0).0) ≡ false = ap (λ (p : Moved × State). is_entry (answer.Moved p.0)) adv ∙ still in
    let last : moves_at s n ≡ false = subst (λ (u : State). is_entry (answer.Moved (advance u 0).0) ≡ false) at here in
    let same : n ≡ n + 1 - 1 = omega arith in
    let goes : new ≡ after s (replicate (n + 1) (Advance 0)) = sym (once_more s (Advance 0) n ∙ ap (λ (u : State). (advance u 0).1) (sym at) ∙ ap (λ (p : Moved × State). p.1) adv) in
    (n + 1, record { moved = λ i h. moved i (omega arith); ends = inr (omega arith, subst (λ (k : ℕ). moves_at s k ≡ false) same last) }, goes)
