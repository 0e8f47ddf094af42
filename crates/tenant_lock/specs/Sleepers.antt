-- What a tenant's lock keeps, and who sleeps at its slots.
use Rattle.std.specs.Prelude.{ℕ, ◌≡◌, ◌≢◌, ◌⊎◌, ◌&&◌, ◌||◌, Bool, true, false, List, Option, Some, None, replicate, slice_index_or, slice_set}
use Rattle.job_language.specs.declared.answers.Moved.TheVariants.{Idle}
use Rattle.job_language.specs.declared.tenants.TheConstants.{MAX_SLOTS}
use Rattle.tenant_model.specs.Advance.{advance}
use Rattle.tenant_model.specs.Walks.{height}
use Rattle.tenant_record.specs.Cell.{CellData, has_slot_of, state_of}
use Rattle.tenant_record.specs.PassData.{PassData}
use Rattle.tenant_lock.specs.Awaited.{added, jobs_of}
use Rattle.tenant_lock.specs.Pauses.{has_to_stop}
use Rattle.tenant_lock.specs.declared.awaited.AwaitedJobs.{AwaitedJobs}
use Rattle.tenant_lock.specs.declared.waits.SlotSet.{SlotSet}

-- The number of the cell's life, the tenant's cell, whether those who wait for it were told to stop, and at which slots and for which jobs somebody may sleep who was not told to look again.
pub record HeldData : Type 0 where
  pub life : ℕ
  pub cell : CellData
  pub is_stopped : Bool
  pub noted : List Bool
  pub awaited : Option AwaitedJobs

-- Has everybody who waits to stop?
abbrev pub must_stop : HeldData → Bool
must_stop h = has_to_stop h.is_stopped h.cell

-- with somebody who may sleep at that slot
abbrev pub with_sleeper : HeldData → (slot : ℕ) → HeldData
with_sleeper h slot = record h { noted = slice_set h.noted slot true }

-- with a seat that may sleep for that job
abbrev pub with_waiter : HeldData → (seat job : ℕ) → HeldData
with_waiter h seat job = record h { awaited = Some (added (jobs_of h.awaited) seat job) }

-- The slot of a pass may be left: it is one of the cell's, and nothing is on it, or those who wait have to stop.
pub record MayLeave (h : HeldData) (p : PassData) : Type 0 where
  pub there : has_slot_of h.cell p ≡ true
  pub empty : must_stop h ≡ false → height (state_of h.cell).rows p.slot ≡ 0

-- of each slot whether it is one of these
abbrev pub marks : Option SlotSet → List Bool
marks None = replicate MAX_SLOTS false
marks (Some slots) = slots.is_in

-- Is the slot one of these?
abbrev pub is_in : List Bool → ℕ → Bool
is_in slots slot = slice_index_or slots slot false

-- There is nothing to do at the slot: nobody has to stop, and an advance would be idle.
abbrev pub IsIdle : CellData → (is_over : Bool) → ℕ → Type 0
IsIdle c is_over slot = (is_over ≡ false) × ((advance (state_of c) slot).0 ≡ Idle)

-- There is something to do at the slot, if only to stop.
abbrev pub CanMove : CellData → (is_over : Bool) → ℕ → Type 0
CanMove c is_over slot = (is_over ≡ true) ⊎ ((advance (state_of c) slot).0 ≢ Idle)

-- Of the slots that were noted, those are named at which there is something to do, and no others; those with nothing to do are left.
pub record AreTold (c : CellData) (is_over : Bool) (noted named left : List Bool) : Type 0 where
  pub each : (slot : ℕ) → is_in noted slot ≡ (is_in named slot || is_in left slot)
  pub once : (slot : ℕ) → (is_in named slot && is_in left slot) ≡ false
  pub move : (slot : ℕ) → is_in named slot ≡ true → CanMove c is_over slot
  pub sleep : (slot : ℕ) → is_in left slot ≡ true → IsIdle c is_over slot

-- the same of slots that may be none
abbrev pub AreNamed : CellData → (is_over : Bool) → (noted named left : Option SlotSet) → Type 0
AreNamed c is_over noted named left = AreTold c is_over (marks noted) (marks named) (marks left)
