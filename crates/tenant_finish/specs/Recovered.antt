-- A tenant that is taken from its history, and finished.
use Rattle.std.specs.Prelude.{◌≡◌, ◌<◌, ◌⊎◌, ℕ, true}
use Rattle.job_finish.specs.Finished.{GoesOn}
use Rattle.job_language.specs.Recorded.{is_entry}
use Rattle.job_language.specs.declared.steps.Entry.{Entry}
use Rattle.serial_law.specs.SerialValues.{KeepsSerialValues}
use Rattle.tenant_model.specs.Asks.{has_outcome}
use Rattle.tenant_model.specs.Changes.{is_full}
use Rattle.tenant_model.specs.Solo.{step}
use Rattle.tenant_model.specs.State.{State, empty}
use Rattle.tenant_record.specs.History.{IsHistory, steps_of}
use Rattle.tenant_record.specs.Replayed.{Replayed, state_of}

-- Every job has an outcome, or there is no room for more.
abbrev pub IsDone : State → Type 0
IsDone s = (is_full s ≡ true) ⊎ ((j : ℕ) → has_outcome s.rows j ≡ true)

-- A tenant went on by advances alone, until each of its jobs had an outcome, or its history was full.
pub record IsFinishedTenant (old new : Replayed) : Type 0 where
  pub goes : GoesOn old new
  -- It replays.
  pub right : IsHistory new.config new.history
  pub done : old.config.reserved < old.config.slots → IsDone (state_of new)
  -- Each serial job that completes has its serial value.
  pub serial : KeepsSerialValues (empty new.config) (steps_of new.history)

-- In that state the entry's step is answered as it says, and what is answered is an entry.
pub record IsRightEntry (s : State) (e : Entry) : Type 0 where
  pub entry : is_entry e.answer ≡ true
  pub answer : (step s e.step).0 ≡ e.answer
