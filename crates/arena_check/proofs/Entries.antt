-- The entries of a history, checked one by one.
use Rattle.std.proofs.Common.{◌≡◌, ◌↔◌, ◌<◌, ◌∙◌, ◌+◌, ◌++◌, ◌∷◌, ℕ, Bool, true, false, IsTrue, List, [], length, map, drop, take, get_or, sym, ap, append_assoc, true≢false}
use Rattle.std.proofs.lemmas.List.{drop_more, take_more, map-append}
use Rattle.job_language.specs.Recorded.{is_entry}
use Rattle.job_language.specs.declared.answers.Answer.{Answer}
use Rattle.job_language.specs.declared.steps.Entry.{Entry}
use Rattle.job_language.specs.declared.steps.Step.{Step}
use Rattle.tenant_model.specs.Solo.{answers, step}
use Rattle.tenant_model.specs.State.{State}
use Rattle.solo_eval.specs.Verdicts.{IsRight}

abbrev steps_in : List Entry → List Step
steps_in es = map (λ (e : Entry). e.step) es

abbrev answers_in : List Entry → List Answer
answers_in es = map (λ (e : Entry). e.answer) es

module _ (s : State) (e : Entry) (given : Answer) (same : Bool) (taken : given ≡ (step s e.step).0) (exact : IsTrue same ↔ ((is_entry e.answer ≡ true) × (given ≡ e.answer))) where
  -- An entry is right if its answer is an entry and the one that was given.
  pub right_as : same ≡ true → IsRight s e
  right_as is = let recorded = exact.0 is in record { entry = recorded.0; answer = sym taken ∙ recorded.1 }

  pub wrong_as : same ≡ false → IsRight s e → ⊥
  wrong_as isnt right = true≢false (sym (exact.1 (right.entry, taken ∙ right.answer)) ∙ isnt)

module _ (s : State) (es : List Entry) (i : ℕ) (e : Entry) (low : i < length es) (here : e ≡ get_or es i e) where
  left : drop i es ≡ e ∷ drop (i + 1) es
  left = drop_more es i e low ∙ ap (λ (x : Entry). x ∷ drop (i + 1) es) (sym here)

  past : take (i + 1) es ≡ take i es ++ e ∷ []
  past = take_more es i e low ∙ ap (λ (x : Entry). take i es ++ x ∷ []) (sym here)

  -- The next entry's answer is the tenant's, and then the others are given.
  pub answered_on : (step s e.step).0 ≡ e.answer →
      map (λ (x : Entry). x.answer) (take i es) ++ answers s (map (λ (x : Entry). x.step) (drop i es)) ≡
      map (λ (x : Entry). x.answer) (take (i + 1) es) ++ answers (step s e.step).1 (map (λ (x : Entry). x.step) (drop (i + 1) es))
  answered_on given =
      let rest = answers (step s e.step).1 (steps_in (drop (i + 1) es)) in
      ap (λ (xs : List Entry). answers_in (take i es) ++ answers s (steps_in xs)) left
      ∙ ap (λ (a : Answer). answers_in (take i es) ++ a ∷ rest) given
      ∙ sym (append_assoc (answers_in (take i es)) (e.answer ∷ []) rest)
      ∙ ap (λ (xs : List Answer). xs ++ rest) (sym (map-append (λ (x : Entry). x.answer) (take i es) (e ∷ [])))
      ∙ ap (λ (xs : List Entry). answers_in xs ++ rest) (sym past)
