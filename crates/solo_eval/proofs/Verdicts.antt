-- The verdict on a history, entry by entry.
use Rattle.std.proofs.Common.{◌≡◌, ◌<◌, ◌∙◌, ◌+◌, ◌∷◌, ℕ, List, [], length, drop, get_or, refl, sym, ap, subst, inl, inr}
use Rattle.std.proofs.lemmas.List.{drop_more}
use Rattle.job_language.specs.declared.steps.Entry.{Entry}
use Rattle.tenant_model.specs.Solo.{step}
use Rattle.tenant_model.specs.State.{State}
use Rattle.solo_eval.specs.declared.checking.Verdict.{Verdict}
use Rattle.solo_eval.specs.declared.checking.Verdict.TheVariants.{No}
use Rattle.solo_eval.specs.Verdicts.{IsRight, IsVerdictFrom}

module _ (s : State) (es : List Entry) (i : ℕ) (e : Entry) (low : i < length es) (here : e ≡ get_or es i e) where
  next_first : e ∷ drop (i + 1) es ≡ drop i es
  next_first = sym (drop_more es i e low ∙ ap (λ (x : Entry). x ∷ drop (i + 1) es) (sym here))

  -- The next entry is right, and then the others tell.
  pub verdict_after : IsRight s e → (verdict : Verdict) → IsVerdictFrom (step s e.step).1 (i + 1 + 1) (drop (i + 1) es) verdict → IsVerdictFrom s (i + 1) (drop i es) verdict
  verdict_after right verdict others = subst (λ (xs : List Entry). IsVerdictFrom s (i + 1) xs verdict) next_first (inl (right, others))

  -- The next entry is not.
  pub verdict_here : (IsRight s e → ⊥) → IsVerdictFrom s (i + 1) (drop i es) (No (i + 1))
  verdict_here wrong = subst (λ (xs : List Entry). IsVerdictFrom s (i + 1) xs (No (i + 1))) next_first (inr (wrong, refl))

-- Entries have one verdict.
pub one_verdict : (s : State) (k : ℕ) (es : List Entry) (one other : Verdict) → IsVerdictFrom s k es one → IsVerdictFrom s k es other → one ≡ other
one_verdict s k [] one other first second = first ∙ sym second
one_verdict s k (e ∷ es) one other (inl right) (inl also) = one_verdict (step s e.step).1 (k + 1) es one other right.1 also.1
one_verdict s k (e ∷ es) one other (inl right) (inr wrong) = absurd (wrong.0 right.0)
one_verdict s k (e ∷ es) one other (inr wrong) (inl right) = absurd (wrong.0 right.0)
one_verdict s k (e ∷ es) one other (inr wrong) (inr also) = wrong.1 ∙ sym also.1
