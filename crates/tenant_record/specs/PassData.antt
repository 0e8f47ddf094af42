-- Passes, and what they keep of the answers to their holders.
use Rattle.std.specs.Prelude.{ℕ, ◌≡◌, nat_lt, Bool, true, false, ◌||◌, List, [], ◌∷◌, ◌++◌, length, map, Option, Some, None}
use Rattle.job_language.specs.declared.answers.Answer.TheVariants as answer
use Rattle.job_language.specs.declared.answers.Came.TheVariants.{At}
use Rattle.job_language.specs.declared.answers.Moved.{Moved}
use Rattle.job_language.specs.declared.answers.Moved.TheVariants as moved
use Rattle.job_language.specs.declared.steps.Entry.{Entry}
use Rattle.job_language.specs.declared.steps.Step.TheVariants.{Arrive, Advance}
use Rattle.tenant_record.specs.History.{entries_of}
use Rattle.tenant_record.specs.declared.notes.Told.{Told}
use Rattle.tenant_record.specs.declared.notes.Told.TheVariants.{Arrived, Ran, Nested, Freed}

-- The pass of a slot: how many entries its log may have, the entries of the slot that its holders were told of, in order,
-- whether one of them got the answer Full, and how many entries the history had at the last idle
-- advance, if the slot was not touched since.
pub record PassData : Type 0 where
  pub tenant : ℕ
  pub slot : ℕ
  pub limit : ℕ
  pub log : List Entry
  pub full : Bool
  pub still : Option ℕ

abbrev pub has_room : PassData → Bool
has_room p = nat_lt (length p.log) p.limit

-- the entry of a slot that a note of its pass stands for
abbrev pub entry_told : ℕ → Told → Entry
entry_told slot (Arrived row) = record { step = Arrive slot; answer = answer.Came (At row) }
entry_told slot Ran = record { step = Advance slot; answer = answer.Moved moved.Ran }
entry_told slot (Nested row) = record { step = Advance slot; answer = answer.Moved (moved.Nested row) }
entry_told slot Freed = record { step = Advance slot; answer = answer.Moved moved.Freed }

abbrev pub log_of : ℕ → List Told → List Entry
log_of slot log = map (entry_told slot) log

-- what a pass notes of an advance, if it is an entry
abbrev pub told_of : Moved → List Told
told_of moved.Ran = Ran ∷ []
told_of (moved.Nested row) = Nested row ∷ []
told_of moved.Freed = Freed ∷ []
told_of m = []

abbrev pub is_full_answer : Moved → Bool
is_full_answer moved.Full = true
is_full_answer m = false

-- the count of entries at which the slot was last found idle, after an advance that came at that count
abbrev pub still_after : Option ℕ → Moved → (entries : ℕ) → Option ℕ
still_after still moved.Idle entries = Some entries
still_after still moved.Ran entries = None
still_after still (moved.Nested row) entries = None
still_after still moved.Freed entries = None
still_after still m entries = still

-- Does the pass go home after that answer?
abbrev pub goes_home : Moved → Bool
goes_home moved.Freed = true
goes_home moved.Left = true
goes_home m = false

-- the pass after an advance of its slot with that answer, before which the history had that number of entries
abbrev pub advanced : PassData → Moved → (entries : ℕ) → PassData
advanced p m entries = record p {
  log = p.log ++ entries_of (Advance p.slot) (answer.Moved m);
  full = p.full || is_full_answer m;
  still = still_after p.still m entries;
}

-- the pass after an arrival at its slot that found a row
abbrev pub arrived : PassData → (row : ℕ) → PassData
arrived p row = record p { log = p.log ++ entries_of (Arrive p.slot) (answer.Came (At row)); still = None }

-- the pass after a job was placed on its slot
abbrev pub placed : PassData → PassData
placed p = record p { still = None }

-- a pass that nobody had yet
abbrev pub first_pass : (tenant limit slot : ℕ) → PassData
first_pass tenant limit slot = record { tenant = tenant; slot = slot; limit = limit; log = []; full = false; still = None }

-- the pass of that tenant's slot
pub record IsPassOf (t s : ℕ) (p : PassData) : Type 0 where
  pub tenant : p.tenant ≡ t
  pub slot : p.slot ≡ s

-- There is a pass if and only if a slot is named, and it is the pass of that slot of the tenant.
abbrev pub GoesWith : (tenant : ℕ) → Option ℕ → Option PassData → Type 0
GoesWith tenant None q = q ≡ None
GoesWith tenant (Some slot) None = ⊥
GoesWith tenant (Some slot) (Some p) = IsPassOf tenant slot p
