-- Histories: the entries that were recorded of a tenant's steps.
use Rattle.std.specs.Prelude.{◌≡◌, ◌≤◌, ◌⊎◌, true, false, List, [], ◌∷◌, length, map, All, if◌then◌else◌}
use Rattle.job_language.specs.Recorded.{is_entry}
use Rattle.job_language.specs.declared.answers.Answer.{Answer}
use Rattle.job_language.specs.declared.steps.Entry.{Entry}
use Rattle.job_language.specs.declared.steps.Step.{Step}
use Rattle.job_language.specs.declared.tenants.Tenant.{Tenant}
use Rattle.tenant_model.specs.Changes.{is_full}
use Rattle.tenant_model.specs.State.{State, empty}
use Rattle.tenant_model.specs.Solo.{step, answers, after}

abbrev pub steps_of : List Entry → List Step
steps_of history = map (λ (e : Entry). e.step) history

abbrev pub answers_of : List Entry → List Answer
answers_of history = map (λ (e : Entry). e.answer) history

-- the state of a tenant after a history
abbrev pub state_after : Tenant → List Entry → State
state_after c history = after (empty c) (steps_of history)

-- what is recorded of a step that is answered so
abbrev pub entries_of : Step → Answer → List Entry
entries_of step answer = if is_entry answer then (record { step = step; answer = answer }) ∷ [] else []

-- A history is right for a tenant: its answers are those that the tenant gives to its steps, and each is an entry.
pub record IsHistory (c : Tenant) (history : List Entry) : Type 0 where
  pub answers_are : answers (empty c) (steps_of history) ≡ answers_of history
  pub all_entries : All (λ (e : Entry). is_entry e.answer ≡ true) history
  -- The state after it has counted its entries.
  pub counted : (state_after c history).entries ≡ length history
  pub config : (state_after c history).config ≡ c
  pub within : length history ≤ c.steps

-- With this answer the step is an entry, for which the history has room, and leads to the next state; or nothing changes.
abbrev pub Takes : State → Step → Answer → State → Type 0
Takes s x a t = ((is_entry a ≡ true) × (is_full s ≡ false) × (step s x ≡ (a, t))) ⊎ ((is_entry a ≡ false) × (t ≡ s))
