-- What a session does to the tenants by the definitions, if nobody else acts on them.
use Rattle.std.specs.Prelude.{ℕ, zero, suc, ◌≡◌, ◌≢◌, ◌<◌, ◌≤◌, Bool, true, List, length, Option, Some, None, Result, Ok, Err, is_some, unwrap_or, slice_get, slice_set}
use Rattle.job_language.specs.declared.answers.Moved.{Moved}
use Rattle.job_language.specs.declared.answers.Moved.TheVariants as moved
use Rattle.job_language.specs.declared.answers.Reply.{Reply}
use Rattle.job_language.specs.declared.answers.Reply.TheVariants.{Refused}
use Rattle.job_language.specs.declared.errors.Error.{Error}
use Rattle.job_language.specs.declared.errors.Error.TheVariants.{NoTenant}
use Rattle.job_language.specs.declared.requests.Request.{Request}
use Rattle.job_language.specs.declared.tenants.TheConstants.{MAX_STEPS}
use Rattle.tenant_model.specs.State.{State}
use Rattle.tenant_model.specs.Told.{placed_on}
use Rattle.tenant_model.specs.Walks.{height}
use Rattle.tenant_model.specs.Advance.{advance}
use Rattle.tenant_model.specs.Asks.{ask}
use Rattle.nested_wait.specs.declared.attending.Attended.{Attended}
use Rattle.nested_wait.specs.declared.attending.Attended.TheVariants.{Below, Full, Stopped}
use Rattle.session_core.specs.declared.doors.Answered.{Answered}

-- the tenants' states, numbered from 0, the number of the tenant that the session is bound to, and the slot that it attends there
pub record Tenants : Type 0 where
  pub states : List State
  pub bound : ℕ
  pub slot : ℕ

-- the state of the tenant that is bound, if there is one of that number
abbrev pub bound_state : Tenants → Option State
bound_state ts = slice_get ts.states ts.bound

-- the bound tenant in another state, and every other one as it was
abbrev pub with_state : Tenants → State → Tenants
with_state ts s = record ts { states = slice_set ts.states ts.bound s }

-- No tenant with a number below this one has the name.
abbrev pub IsNoneBefore : List State → (name : List ℕ) → (number : ℕ) → Type 0
IsNoneBefore states name number = (n : ℕ) (s : State) → n < number → slice_get states n ≡ Some s → s.config.name ≢ name

-- the first tenant of a name
abbrev pub FindsTenant : Tenants → (name : List ℕ) → Option ℕ → Type 0
FindsTenant ts name None = IsNoneBefore ts.states name (length ts.states)
FindsTenant ts name (Some t) = ((s : State) × ((slice_get ts.states t ≡ Some s) × (s.config.name ≡ name))) × IsNoneBefore ts.states name t

-- A session is bound to any tenant that it asks for.
abbrev pub BindsTenant : Tenants → (tenant : ℕ) → (name : List ℕ) → Result (Unit {0}) Error → Tenants → Type 0
BindsTenant ts tenant name (Ok u) us = us ≡ record ts { bound = tenant }
BindsTenant ts tenant name (Err error) us = ⊥

-- the answer with this reply
abbrev pub answered : Reply → Answered
answered r = record { reply = r; placed = is_some (placed_on r) }

-- A job that is placed on a slot leads the session there.
abbrev pub asked_in : Tenants → Reply × State → Answered × Tenants
asked_in ts r = (answered r.0, record (with_state ts r.1) { slot = unwrap_or (placed_on r.0) ts.slot })

-- The bound tenant answers as the definitions do; without one the answer is error 11.
abbrev pub asked_of : Tenants → Request → Option State → Answered × Tenants
asked_of ts request None = (answered (Refused NoTenant), ts)
asked_of ts request (Some s) = asked_in ts (ask s request)

abbrev pub AsksTenant : Tenants → Request → Answered → Tenants → Type 0
AsksTenant ts request a us = (a ≡ (asked_of ts request (bound_state ts)).0) × (us ≡ (asked_of ts request (bound_state ts)).1)

-- A wait says to stop, since nothing changes while one waits.
abbrev pub WaitsForJob : Tenants → (job : ℕ) → Bool → Tenants → Type 0
WaitsForJob ts job stops us = (stops ≡ true) × (us ≡ ts)

-- an advance of the slot that is attended
abbrev pub moved_in : Tenants → Moved × State → Moved × Tenants
moved_in ts r = (r.0, with_state ts r.1)

abbrev pub moved_of : Tenants → Option State → Moved × Tenants
moved_of ts None = (moved.Idle, ts)
moved_of ts (Some s) = moved_in ts (advance s ts.slot)

abbrev pub moved_by : Tenants → Moved × Tenants
moved_by ts = moved_of ts (bound_state ts)

abbrev pub height_of : Tenants → Option State → ℕ
height_of ts None = 0
height_of ts (Some s) = height s.rows ts.slot

-- A history of the bound tenant has a limit of at most 1,048,576 entries.
abbrev pub IsLimited : Option State → Type 0
IsLimited None = Unit {0}
IsLimited (Some s) = s.config.steps ≤ MAX_STEPS

-- how many rows are on the slot that is attended
abbrev pub height_in : Tenants → ℕ
height_in ts = height_of ts (bound_state ts)

-- So many advances, each of a stack that is not empty, and each answered neither Idle nor Full.
abbrev pub Works : ℕ → Tenants → Tenants → Type 0
Works zero ts us = us ≡ ts
Works (suc n) ts us = (1 ≤ height_in ts) × ((moved_by ts).0 ≢ moved.Idle) × ((moved_by ts).0 ≢ moved.Full) × Works n (moved_by ts).1 us

-- Below: the stack is empty. Full and Stopped: it is not, and one more advance is Full or Idle.
abbrev pub EndsAs : Attended → (us vs : Tenants) → Type 0
EndsAs Below us vs = (height_in us ≡ 0) × (vs ≡ us)
EndsAs Full us vs = (1 ≤ height_in us) × ((moved_by us).0 ≡ moved.Full) × (vs ≡ (moved_by us).1)
EndsAs Stopped us vs = (1 ≤ height_in us) × ((moved_by us).0 ≡ moved.Idle) × (vs ≡ (moved_by us).1)

-- The slot is advanced until its stack is empty, or an advance is Full or Idle.
abbrev pub AttendsSlot : Attended → Tenants → Tenants → Type 0
AttendsSlot how ts vs = (n : ℕ) × (us : Tenants) × (Works n ts us × EndsAs how us vs)
