-- The verdict on what a dump says.
use Rattle.std.specs.Prelude.{◌≡◌, ◌⊎◌, ℕ, ◌+◌, List, [], ◌∷◌}
use Rattle.solo_eval.specs.declared.checking.Verdict.{Verdict}
use Rattle.solo_eval.specs.declared.checking.Verdict.TheVariants.{Yes, No}
use Rattle.solo_eval.specs.Verdicts.{IsRight}
use Rattle.tenant_model.specs.Solo.{step}
use Rattle.tenant_model.specs.State.{State}
use Rattle.dump_lines.specs.declared.lines.Said.{Said}
use Rattle.dump_lines.specs.declared.lines.Said.TheVariants.{Entry, Foreign}

-- from that state on, where the next entry has the number k: the first that is not right, which a foreign one never is
abbrev pub IsVerdictOn : State → (k : ℕ) → List Said → Verdict → Type 0
IsVerdictOn s k [] verdict = verdict ≡ Yes
IsVerdictOn s k (Foreign ∷ others) verdict = verdict ≡ No k
IsVerdictOn s k (Entry e ∷ others) verdict = (IsRight s e × IsVerdictOn (step s e.step).1 (k + 1) others verdict) ⊎ ((IsRight s e → ⊥) × (verdict ≡ No k))
