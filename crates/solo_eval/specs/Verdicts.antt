-- The verdict on a history.
use Rattle.std.specs.Prelude.{◌≡◌, ◌⊎◌, ◌+◌, ℕ, true, List, [], ◌∷◌}
use Rattle.job_language.specs.Recorded.{is_entry}
use Rattle.job_language.specs.declared.steps.Entry.{Entry}
use Rattle.job_language.specs.declared.tenants.Tenant.{Tenant}
use Rattle.tenant_model.specs.Solo.{step}
use Rattle.tenant_model.specs.State.{State, empty}
use Rattle.solo_eval.specs.declared.checking.Verdict.{Verdict}
use Rattle.solo_eval.specs.declared.checking.Verdict.TheVariants.{Yes, No}

-- In that state the entry's step is answered as it says, and what is answered is an entry.
pub record IsRight (s : State) (e : Entry) : Type 0 where
  pub entry : is_entry e.answer ≡ true
  pub answer : (step s e.step).0 ≡ e.answer

-- the verdict on entries that begin in that state, the first of which has the number k
abbrev pub IsVerdictFrom : State → (k : ℕ) → List Entry → Verdict → Type 0
IsVerdictFrom s k [] verdict = verdict ≡ Yes
IsVerdictFrom s k (e ∷ es) verdict = (IsRight s e × IsVerdictFrom (step s e.step).1 (k + 1) es verdict) ⊎ ((IsRight s e → ⊥) × (verdict ≡ No k))

abbrev pub IsVerdict : Tenant → List Entry → Verdict → Type 0
IsVerdict c entries verdict = IsVerdictFrom (empty c) 1 entries verdict
