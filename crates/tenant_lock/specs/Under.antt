-- What a call did to the cell that lay under the lock.
use Rattle.std.specs.Prelude.{ℕ, ◌≡◌, ◌≢◌, ◌≤◌, ◌<◌, ◌⊎◌, true, false, ◌++◌, IfOk, IfSome, IsSome, List, OnOk, Option, Result, Some, None, drop, length, count_by, take}
use Rattle.job_language.specs.declared.answers.Came.TheVariants.{Nothing}
use Rattle.job_language.specs.declared.answers.Moved.TheVariants.{Stale}
use Rattle.job_language.specs.declared.answers.Reply.TheVariants.{Refused}
use Rattle.job_language.specs.declared.errors.Error.TheVariants.{NoTenant}
use Rattle.job_language.specs.declared.requests.Request.{Request}
use Rattle.job_step.specs.declared.segments.Top.{Top}
use Rattle.job_step.specs.declared.segments.View.{View}
use Rattle.market_config.specs.declared.calls.Call.{Call}
use Rattle.job_language.specs.declared.answers.Status.{Status}
use Rattle.job_language.specs.declared.steps.Entry.{Entry}
use Rattle.tenant_model.specs.Asks.{known_job}
use Rattle.tenant_model.specs.Changes.{open_rows}
use Rattle.tenant_model.specs.Walks.{height, is_unstarted}
use Rattle.tenant_record.specs.Cell.{CellData, IsCommitted, IsRight, AnswersAsk, advance_of, arrival, has_slot_of, state_of}
use Rattle.tenant_record.specs.Locked.{IsArrived, IsAsked, IsHandedOver, IsMoved, given_home}
use Rattle.tenant_record.specs.PassData.{PassData}
use Rattle.tenant_record.specs.Replayed.{status_of}
use Rattle.tenant_record.specs.SeatData.{SeatData}
use Rattle.tenant_record.specs.declared.cells.AskOutcome.{AskOutcome}
use Rattle.tenant_record.specs.declared.slots.Advanced.{Advanced}
use Rattle.tenant_record.specs.declared.slots.Arrived.{Arrived}
use Rattle.tenant_book.specs.Fronts.{Finds, Follows, FrontData}
use Rattle.tenant_lock.specs.declared.counts.Counts.{Counts}
use Rattle.tenant_lock.specs.declared.counts.Tally.{Tally}
use Rattle.tenant_lock.specs.declared.held.MovedAndSeen.{MovedAndSeen}
use Rattle.tenant_lock.specs.Looks.{IsCountAfter, IsLookAfter}

-- An ask of a seat of the tenant of that number is one of that tenant's cell. The cell of another tenant is not asked.
pub record IsAskOf (tenant : ℕ) (s : SeatData) (r : Request) (a : AskOutcome) (t : SeatData) (c d : CellData) : Type 0 where
  pub answer : c.tenant ≡ tenant → AnswersAsk c s r a.reply d
  pub asked : c.tenant ≡ tenant → IsAsked c s r a.reply a.due a.pass d t
  pub elsewhere : c.tenant ≢ tenant → (a ≡ record { reply = Refused NoTenant; due = None; pass = None }) × (d ≡ c)

-- An arrival for a call of that tenant is one at the call's slot. At another tenant nothing happens.
pub record IsArrivalOf (tenant : ℕ) (call : Call) (a : Arrived) (c d : CellData) : Type 0 where
  pub answer : call.tenant ≡ tenant → c.tenant ≡ tenant → a.came ≡ (arrival c call.slot).0
  pub arrived : call.tenant ≡ tenant → c.tenant ≡ tenant → IsArrived c call.slot a.came a.due a.pass d
  pub elsewhere : (call.tenant ≢ tenant) ⊎ (c.tenant ≢ tenant) → (a ≡ record { came = Nothing; due = None; pass = None }) × (d ≡ c)

-- Nothing was done for a pass that is not the one that is out of one of the cell's slots.
abbrev pub IsStale : PassData → Advanced → (c d : CellData) → Type 0
IsStale p a c d = (a ≡ record { moved = Stale; due = None; pass = Some p }) × (d ≡ c)

-- The slot of a pass advances.
pub record IsAdvanceOf (p : PassData) (a : Advanced) (c d : CellData) : Type 0 where
  pub answer : has_slot_of c p ≡ true → a.moved ≡ (advance_of c p).0
  pub moved : has_slot_of c p ≡ true → IsMoved c p a.moved a.due a.pass d
  pub elsewhere : has_slot_of c p ≡ false → IsStale p a c d

-- The private run of a frame takes the place of an advance of the slot of a pass.
pub record IsCommitOf (p : PassData) (t : Top) (a : Advanced) (c d : CellData) : Type 0 where
  pub answer : has_slot_of c p ≡ true → IsCommitted c p t a.moved d
  pub moved : has_slot_of c p ≡ true → IsMoved c p a.moved a.due a.pass d
  pub elsewhere : has_slot_of c p ≡ false → IsStale p a c d

-- The pass of one of the cell's slots, which was out, is put home.
pub record IsGivenHome (p : PassData) (c d : CellData) : Type 0 where
  pub there : has_slot_of c p ≡ true
  pub given : d ≡ given_home c p

-- The same, and at that moment a worker is called.
pub record IsHandOverOf (p : PassData) (due : Option ℕ) (c d : CellData) : Type 0 where
  pub there : has_slot_of c p ≡ true
  pub handed : IsHandedOver c p due d

-- A right cell of the tenant of that number lay under the lock, the last moment of the tenant's one history, of which the caller
-- had seen a beginning. That was done to it, it is right after it, and the caller has seen the history up to then.
pub record WasUnder (tenant : ℕ) (seen now : FrontData) (done : CellData → CellData → Type 0) : Type 0 where
  pub before : CellData
  pub after : CellData
  pub own : before.tenant ≡ tenant
  pub front : Follows seen now before after
  pub right : IsRight before
  pub still_right : IsRight after
  pub is : done before after

-- That holds of a right cell of the tenant that lay under the lock, the last moment of the tenant's one history, of which the
-- caller had seen a beginning, and has seen all now.
pub record WasThere (tenant : ℕ) (seen now : FrontData) (holds : CellData → Type 0) : Type 0 where
  pub cell : CellData
  pub own : cell.tenant ≡ tenant
  pub front : Finds seen now cell
  pub right : IsRight cell
  pub is : holds cell

-- That many rows are on the slot of a pass.
abbrev pub IsHigh : PassData → ℕ → CellData → Type 0
IsHigh p rows c = rows ≡ height (state_of c).rows p.slot

-- The slot of a pass was moved, and looked at: what is seen, and how many rows are on it, are those after the move.
abbrev pub AndLooked : MovedAndSeen → View → (CellData → CellData → Type 0) → CellData → CellData → Type 0
AndLooked t view moved c d = moved c d × IsLookAfter t view d

-- The slot of a pass was moved, and the rows on it counted after that.
abbrev pub AndCounted : MovedAndSeen → (CellData → CellData → Type 0) → CellData → CellData → Type 0
AndCounted t moved c d = moved c d × IsCountAfter t d

-- The entries from that number on, that many at most, were added to a vector.
abbrev pub AreCopied : (from most : ℕ) → (old new : List Entry) → CellData → Type 0
AreCopied from most old new c = new ≡ old ++ take most (drop from c.history)

-- The same, if that was told with how many entries there are.
abbrev pub AreCopiesOf : {E : Type 0} → (from most : ℕ) → (old new : List Entry) → Result ℕ E → CellData → Type 0
AreCopiesOf from most old new told c = OnOk told (AreCopied from most old new c) × IfOk told (λ all. all ≡ length c.history)

-- how much of the history is used
abbrev pub AreCounts : Counts → CellData → Type 0
AreCounts n c = (n.entries ≡ length c.history) × (n.asks ≡ length c.askers)

-- how many rows are open, and how many of them wait
abbrev pub IsTally : Tally → CellData → Type 0
IsTally t c = (t.open_rows ≡ open_rows (state_of c).rows) × (t.waiting_rows ≡ count_by (λ r. is_unstarted r.phase) (state_of c).rows)

-- the least number above another one of a job that is neither retired nor released
abbrev pub IsNextJob : (after : ℕ) → Option ℕ → CellData → Type 0
IsNextJob after next c =
    IfSome next (λ n. (after < n) × IsSome (known_job (state_of c) n))
    × ((j : ℕ) → after < j → IsSome (known_job (state_of c) j) → (n : ℕ) × (next ≡ Some n) × (n ≤ j))

-- how far a job is, if it was made and is neither retired nor released
abbrev pub IsStatus : (job : ℕ) → Option Status → CellData → Type 0
IsStatus job status c = status ≡ status_of (state_of c) job
