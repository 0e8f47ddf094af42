-- A run of steps, taken one by one.
use Rattle.std.proofs.Common.{◌≡◌, ℕ, ◌+◌, ◌<◌, List, [], ◌∷◌, length, take, get_or, ap, ◌∙◌}
use Rattle.std.proofs.lemmas.List.{take_more}
use Rattle.std.proofs.lemmas.List.Sums.{fold-append}
use Rattle.job_language.specs.declared.steps.Step.{Step}
use Rattle.tenant_model.specs.State.{State}
use Rattle.tenant_model.specs.Solo.{step, after}

module _ (s : State) (xs : List Step) (i : ℕ) (within : i < length xs) (d : Step) where
  -- one step more
  pub after_more : after s (take (i + 1) xs) ≡ (step (after s (take i xs)) (get_or xs i d)).1
  after_more = ap (after s) (take_more xs i d within) ∙ fold-append (λ t x. (step t x).1) s (take i xs) (get_or xs i d ∷ [])
