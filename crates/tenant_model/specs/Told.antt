-- What the answer to a step shows: whether it is an entry, which slot the step changed, and whether that slot is free.
use Rattle.std.specs.Prelude.{ℕ, ◌≡◌, ◌≢◌, ◌+◌, ◌==◌, ◌<◌, Bool, true, false, Option, Some, None}
use Rattle.job_language.specs.declared.answers.Answer.{Answer}
use Rattle.job_language.specs.declared.answers.Answer.TheVariants.{Replied, Moved}
use Rattle.job_language.specs.declared.answers.Moved.TheVariants.{Freed, Left}
use Rattle.job_language.specs.declared.answers.Reply.{Reply}
use Rattle.job_language.specs.declared.answers.Reply.TheVariants.{Placed}
use Rattle.job_language.specs.declared.steps.Step.{Step}
use Rattle.job_language.specs.declared.steps.Step.TheVariants.{Ask, Arrive, Advance}
use Rattle.job_language.specs.Recorded.{is_entry}
use Rattle.tenant_model.specs.State.{State}
use Rattle.tenant_model.specs.Walks.{height, has_unstarted}
use Rattle.tenant_model.specs.Solo.{step}

-- the slot that a job was placed on
abbrev pub placed_on : Reply → Option ℕ
placed_on (Placed n slot) = Some slot
placed_on reply = None

-- the slot that a step works on
abbrev pub slot_of : Step → Answer → Option ℕ
slot_of (Arrive slot) a = Some slot
slot_of (Advance slot) a = Some slot
slot_of (Ask r) (Replied reply) = placed_on reply
slot_of (Ask r) a = None

abbrev pub is_freed : Answer → Bool
is_freed (Moved Freed) = true
is_freed a = false

abbrev pub is_left : Answer → Bool
is_left (Moved Left) = true
is_left a = false

-- An answer is an entry if and only if the count of entries grows, by one; a step without an entry changes nothing.
pub record IsEntryCounted (s : State) (x : Step) : Type 0 where
  pub entry : is_entry (step s x).0 ≡ true → (step s x).1.entries ≡ s.entries + 1
  pub none : is_entry (step s x).0 ≡ false → (step s x).1 ≡ s

-- What a step does to the slots.
pub record TellsOfSlots (s : State) (x : Step) : Type 0 where
  -- The other slots have as many rows as before.
  pub others : (o : ℕ) → slot_of x (step s x).0 ≢ Some o → height (step s x).1.rows o ≡ height s.rows o
  -- After an entry a reserved slot is empty if and only if it is freed.
  pub freed : (slot : ℕ) → slot_of x (step s x).0 ≡ Some slot → slot < s.config.reserved → is_entry (step s x).0 ≡ true → (height (step s x).1.rows slot == 0) ≡ is_freed (step s x).0
  -- A worker leaves only an empty slot, and only if no row waits.
  pub left : (slot : ℕ) → slot_of x (step s x).0 ≡ Some slot → is_left (step s x).0 ≡ true → height s.rows slot ≡ 0 × (has_unstarted s ≡ false)
