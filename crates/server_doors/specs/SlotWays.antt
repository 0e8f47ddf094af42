-- What a thread may see and do at the doors of tenants.
use Rattle.std.specs.Prelude.{ℕ, ◌≡◌, ◌≤◌, ◌<◌, Bool, true, List, length, Option, None, MatchOption, option_map}
use Rattle.job_language.specs.declared.answers.Came.{Came}
use Rattle.job_language.specs.declared.answers.Came.TheVariants.{Nothing}
use Rattle.job_language.specs.declared.answers.Moved.{Moved}
use Rattle.job_language.specs.declared.answers.Moved.TheVariants.{Idle}
use Rattle.job_language.specs.declared.answers.Reply.{Reply}
use Rattle.job_language.specs.declared.requests.Request.{Request}
use Rattle.job_step.specs.declared.segments.Top.{Top}
use Rattle.job_step.specs.declared.segments.View.{View}
use Rattle.job_step.specs.declared.segments.View.TheVariants.{Bare}
use Rattle.tenant_lock.specs.Doors.{ComesBack, ComesWith}
use Rattle.tenant_book.specs.Fronts.{FrontData}
use Rattle.tenant_lock.specs.Under.{IsAdvanceOf, IsArrivalOf, IsAskOf, IsCommitOf, IsGivenHome, IsHandOverOf, WasUnder}
use Rattle.tenant_model.specs.Told.{placed_on}
use Rattle.tenant_record.specs.Cell.{CellData}
use Rattle.tenant_record.specs.PassData.{PassData, GoesWith}
use Rattle.tenant_record.specs.SeatData.{SeatData, asked}
use Rattle.tenant_record.specs.declared.slots.Advanced.{Advanced}
use Rattle.server_doors.specs.Slots.{SeesOn, SlotsSeen}
use Rattle.market_config.specs.declared.calls.Call.{Call}

-- the call for a slot of a tenant
abbrev pub call_at : (tenant : ℕ) → ℕ → Call
call_at tenant slot = record { tenant = tenant; slot = slot }

-- What a call did under the lock of a tenant made that slot due, and the call for it is given.
pub record MakesDue (tenant : ℕ) (due : Option Call) (under : Option ℕ → Type 0) : Type 0 where
  pub slot : Option ℕ
  pub called : due ≡ option_map (call_at tenant) slot
  pub done : under slot

-- That was done under the lock of a tenant, of whose history it was seen.
abbrev pub WasSeen : (tenant : ℕ) → (before after : List FrontData) → (CellData → CellData → Type 0) → Type 0
WasSeen tenant before after done = SeesOn tenant before after (λ seen now. WasUnder tenant seen now done)

-- what is known of a move of a pass's slot with that answer, from which the pass q comes back: the slot that it made due is called
abbrev pub IsMoveBy : (Advanced → CellData → CellData → Type 0) → PassData → Moved → Option Call → (before after : List FrontData) → Option PassData → Type 0
IsMoveBy moves p m due before after q =
    ComesBack p m q × MakesDue p.tenant due (λ slot. WasSeen p.tenant before after (moves (record { moved = m; due = slot; pass = q })))

-- An advance. Without a pass it is idle.
abbrev pub Moves : SlotsSeen → Moved → Option Call → SlotsSeen → Type 0
Moves s m due t =
    MatchOption s.pass ((m ≡ Idle) × (due ≡ None) × (t ≡ s)) (λ p. (t.doors ≡ s.doors) × IsMoveBy (IsAdvanceOf p) p m due s.fronts t.fronts t.pass)

-- A commit of the private run of a frame. Without a pass it is idle.
abbrev pub Commits : SlotsSeen → Top → Moved → Option Call → SlotsSeen → Type 0
Commits s top m due t =
    MatchOption s.pass ((m ≡ Idle) × (due ≡ None) × (t ≡ s)) (λ p. (t.doors ≡ s.doors) × IsMoveBy (IsCommitOf p top) p m due s.fronts t.fronts t.pass)

-- without a pass no row is on the slot
abbrev pub MayHaveHeight : SlotsSeen → ℕ → Type 0
MayHaveHeight s height = MatchOption s.pass (height ≡ 0) (λ p. Unit {0})

abbrev pub MayBeSeen : SlotsSeen → View → Type 0
MayBeSeen s seen = MatchOption s.pass (seen ≡ Bare) (λ p. Unit {0})

-- Without a pass a pause says to stop.
abbrev pub Pauses : SlotsSeen → Bool → SlotsSeen → Type 0
Pauses s stops t = (t ≡ s) × MatchOption s.pass (stops ≡ true) (λ p. Unit {0})

-- The thread is at no slot any more, once the pass of the one that it was at was given home.
pub record LeavesSlot (p : PassData) (s t : SlotsSeen) : Type 0 where
  pub doors : t.doors ≡ s.doors
  pub pass : t.pass ≡ None
  pub under : WasSeen p.tenant s.fronts t.fronts (IsGivenHome p)

-- Without a pass nothing happens.
abbrev pub GoesHome : SlotsSeen → SlotsSeen → Type 0
GoesHome s t = MatchOption s.pass (t ≡ s) (λ p. LeavesSlot p s t)

-- The thread is at no slot any more, and that slot of its pass's tenant is called, if one became due.
pub record HandsSlot (p : PassData) (s : SlotsSeen) (due : Option Call) (t : SlotsSeen) : Type 0 where
  pub doors : t.doors ≡ s.doors
  pub pass : t.pass ≡ None
  pub under : MakesDue p.tenant due (λ slot. WasSeen p.tenant s.fronts t.fronts (IsHandOverOf p slot))

-- Without a pass nothing happens.
abbrev pub HandsOver : SlotsSeen → Option Call → SlotsSeen → Type 0
HandsOver s due t = MatchOption s.pass ((due ≡ None) × (t ≡ s)) (λ p. HandsSlot p s due t)

-- An arrival at the door of a call's tenant. Without such a tenant it finds nothing.
abbrev pub IsArrivalBy : SlotsSeen → Call → Came → Option Call → SlotsSeen → Type 0
IsArrivalBy s call came due t =
    (call.tenant < length s.doors → MakesDue call.tenant due (λ slot. WasSeen call.tenant s.fronts t.fronts (IsArrivalOf call.tenant call (record { came = came; due = slot; pass = t.pass }))))
    × (length s.doors ≤ call.tenant → (came ≡ Nothing) × (due ≡ None) × (t ≡ s))

-- An arrival for a call. The pass that the thread had goes home first.
pub record ArrivesAt (s : SlotsSeen) (call : Call) (came : Came) (called : Option Call) (t : SlotsSeen) : Type 0 where
  pub mid : SlotsSeen
  pub home : GoesHome s mid
  pub doors : t.doors ≡ s.doors
  pub pass : ComesWith call.tenant call.slot came t.pass
  pub under : IsArrivalBy mid call came called t

-- An ask of a seat. The pass that the thread had goes home first; with a job that is placed on a slot comes that slot's pass.
pub record AsksBy (s : SlotsSeen) (asker : SeatData) (request : Request) (reply : Reply) (called : Option Call) (t : SlotsSeen) (told : SeatData) : Type 0 where
  pub mid : SlotsSeen
  pub home : GoesHome s mid
  pub doors : t.doors ≡ s.doors
  pub pass : GoesWith asker.tenant (placed_on reply) t.pass
  pub seat : told ≡ asked asker request reply
  pub under : MakesDue asker.tenant called (λ slot. WasSeen asker.tenant mid.fronts t.fronts (IsAskOf asker.tenant asker request (record { reply = reply; due = slot; pass = t.pass }) told))
