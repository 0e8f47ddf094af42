-- What holds of a tenant that went on until it was at rest.
use Rattle.std.proofs.Common.{◌≡◌, ℕ, ◌<◌, inl, inr, sym, subst, true}
use Rattle.job_finish.specs.Finished.{IsAtRest}
use Rattle.job_finish.specs.Quiet.{AllClosed, IsQuiet}
use Rattle.job_language.specs.declared.tenants.Tenant.{Tenant}
use Rattle.tenant_finish.specs.Recovered.{IsDone}
use Rattle.tenant_model.specs.Asks.{has_outcome}
use Rattle.tenant_model.specs.State.{State}
use Rattle.tenant_record.specs.History.{IsHistory}
use Rattle.tenant_record.specs.Replayed.{Replayed, state_of}
use Rattle.waiting_law.specs.Waiting.{NoneLive}

-- the laws of tenants at rest, of one state
module _ (s : State) (off : IsQuiet s → NoneLive s) (closed : s.config.reserved < s.config.slots → NoneLive s → IsQuiet s → AllClosed s)
    (outcomes : AllClosed s → (j : ℕ) → has_outcome s.rows j ≡ true) where
  pub done_at_rest : IsAtRest s → s.config.reserved < s.config.slots → IsDone s
  done_at_rest (inl full) workers = inl full
  done_at_rest (inr quiet) workers = inr (outcomes (closed workers (off quiet) quiet))

-- The state's tenant has a slot for workers if the tenant had one.
pub still_workers : (old new : Replayed) → new.config ≡ old.config → IsHistory new.config new.history → old.config.reserved < old.config.slots →
    (state_of new).config.reserved < (state_of new).config.slots
still_workers old new same is workers =
    let here : new.config.reserved < new.config.slots = subst (λ (c : Tenant). c.reserved < c.slots) (sym same) workers in
    subst (λ (c : Tenant). c.reserved < c.slots) (sym is.config) here
