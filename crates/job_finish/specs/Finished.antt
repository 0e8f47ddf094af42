-- Going on with a tenant by advances alone, until nothing is left to do.
use Rattle.std.specs.Prelude.{◌≡◌, ◌⊎◌, ℕ, ◌-◌, true, List, ◌++◌, length, All}
use Rattle.job_finish.specs.Quiet.{IsQuiet}
use Rattle.job_language.specs.declared.steps.Entry.{Entry}
use Rattle.job_language.specs.declared.steps.Step.TheVariants.{Advance}
use Rattle.tenant_model.specs.Changes.{is_full}
use Rattle.tenant_model.specs.State.{State}
use Rattle.tenant_record.specs.Replayed.{Replayed}

-- The entry's step is an advance of some slot.
abbrev pub IsAdvance : Entry → Type 0
IsAdvance e = (slot : ℕ) × (e.step ≡ Advance slot)

-- A tenant's history went on by advances alone.
pub record GoesOn (old new : Replayed) : Type 0 where
  pub config : new.config ≡ old.config
  pub made : List Entry
  pub history : new.history ≡ old.history ++ made
  pub advances : All IsAdvance made

-- Nothing is left to do: no slot can move, or the history is full.
abbrev pub IsAtRest : State → Type 0
IsAtRest s = (is_full s ≡ true) ⊎ IsQuiet s

-- how many entries the history has room for
abbrev pub room_left : Replayed → ℕ
room_left r = r.config.steps - length r.history
