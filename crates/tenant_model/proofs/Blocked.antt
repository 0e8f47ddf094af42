-- What a row does at a wait, by where its run stopped and by what it ran.
use Rattle.std.proofs.Common.{◌≡◌, ℕ, Bool, true, false, ◌==◌, ◌&&◌, refl, sym, ◌∙◌, ap, arith}
use Rattle.job_step.specs.declared.runs.Stop.{Stop}
use Rattle.job_step.specs.declared.runs.Stop.TheVariants.{Shared, Yield, Fault}
use Rattle.tenant_model.specs.State.{State}
use Rattle.tenant_model.specs.Advance.{is_idle_wait}
use Rattle.tenant_model.specs.Blocked.{stops_blocked}

idle_wait-is : (s : State) (n count : ℕ) (stop : Stop) → is_idle_wait s n count stop ≡ (stops_blocked s n stop && (count == 0))
idle_wait-is s n count (Shared i) = refl
idle_wait-is s n count Yield = refl
idle_wait-is s n count Fault = refl

ran_first : (blocked : Bool) (count : ℕ) → (blocked ≡ true → count ≡ 0 → ⊥) → (blocked && (count == 0)) ≡ false
ran_first false count ran = refl
ran_first true count ran = let ne : count ≡ 0 → ⊥ = ran refl in grind (arith, ne)

module _ (s : State) (n count : ℕ) (stop : Stop) (blocked : Bool) (is : blocked ≡ stops_blocked s n stop) where
  pub idle_wait : blocked ≡ true → count ≡ 0 → is_idle_wait s n count stop ≡ true
  idle_wait waits none =
      let stuck : stops_blocked s n stop ≡ true = sym is ∙ waits in
      let both : (stops_blocked s n stop && (count == 0)) ≡ true = rw (stuck, none) refl in
      idle_wait-is s n count stop ∙ both

  pub no_idle_wait : (blocked ≡ true → count ≡ 0 → ⊥) → is_idle_wait s n count stop ≡ false
  no_idle_wait ran = idle_wait-is s n count stop ∙ ap (λ b. b && (count == 0)) (sym is) ∙ ran_first blocked count ran
