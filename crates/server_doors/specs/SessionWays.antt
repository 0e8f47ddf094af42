-- What a session may see and do at the doors of tenants while others act on them too.
use Rattle.std.specs.Prelude.{ℕ, ◌≡◌, ◌<◌, Bool, List, length, Option, Result, Ok, Err, position, slice_index_or, slice_set, is_some, ◌≤◌}
use Rattle.std.specs.Str.{bytes_eq}
use Rattle.job_language.specs.declared.answers.Moved.{Moved}
use Rattle.job_language.specs.declared.answers.Reply.TheVariants.{Refused}
use Rattle.job_language.specs.declared.errors.Error.{Error}
use Rattle.job_language.specs.declared.errors.Error.TheVariants.{NoTenant}
use Rattle.job_language.specs.declared.requests.Request.{Request}
use Rattle.job_step.specs.declared.segments.Top.{Top}
use Rattle.job_step.specs.declared.segments.View.{View}
use Rattle.tenant_model.specs.Told.{placed_on}
use Rattle.tenant_record.specs.SeatData.{SeatData}
use Rattle.server_doors.specs.Slots.{SlotsSeen}
use Rattle.server_doors.specs.SlotWays as slots
use Rattle.server_doors.specs.SlotWays.{Moves, MayHaveHeight, MayBeSeen, Pauses, AsksBy}
use Rattle.market_config.specs.declared.calls.Call.{Call}
use Rattle.worker_main.specs.Pushes.{PushesDue}
use Rattle.worker_main.specs.Slots.{SlotSeen}
use Rattle.session_core.specs.declared.doors.Answered.{Answered}
use Rattle.server_doors.specs.Sessions.{SessionSeen}

-- the session if its thread is elsewhere
abbrev pub with_thread : SessionSeen → SlotSeen SlotsSeen → SessionSeen
with_thread s at = record s { at = at }

-- The first tenant of a name.
abbrev pub Finds : SessionSeen → (name : List ℕ) → Option ℕ → Type 0
Finds s name tenant = tenant ≡ position (bytes_eq name) s.names

-- A session is bound to any tenant that it asks for.
abbrev pub Binds : SessionSeen → (tenant : ℕ) → (name : List ℕ) → Result (Unit {0}) Error → SessionSeen → Type 0
Binds s tenant name (Ok u) t = t ≡ record s { bound = tenant }
Binds s tenant name (Err error) t = ⊥

-- An advance of the slot; the slot that it made due is pushed.
abbrev pub Advances : SessionSeen → Moved → SessionSeen → Type 0
Advances s m t = (due : Option Call) × (Moves s.at.doors m due t.at.doors × PushesDue s.at.ringer due t.at.ringer × (t ≡ with_thread s t.at))

-- A commit to the slot, in the same way.
abbrev pub Commits : SessionSeen → Top → Moved → SessionSeen → Type 0
Commits s top m t = (due : Option Call) × (slots.Commits s.at.doors top m due t.at.doors × PushesDue s.at.ringer due t.at.ringer × (t ≡ with_thread s t.at))

abbrev pub Sees : SessionSeen → View → Type 0
Sees s seen = MayBeSeen s.at.doors seen

abbrev pub HasHeight : SessionSeen → ℕ → Type 0
HasHeight s height = MayHaveHeight s.at.doors height

abbrev pub Waits : SessionSeen → Bool → SessionSeen → Type 0
Waits s stops t = Pauses s.at.doors stops t.at.doors × (t ≡ s)

-- An ask by the session's seat of the tenant that it is bound to; the slot that it made due is pushed.
pub record AsksBound (s : SessionSeen) (request : Request) (answered : Answered) (t : SessionSeen) : Type 0 where
  pub due : Option Call
  pub seat : SeatData
  pub asks : AsksBy s.at.doors (slice_index_or s.seats s.bound seat) request answered.reply due t.at.doors seat
  pub pushes : PushesDue s.at.ringer due t.at.ringer
  pub session : t ≡ record (with_thread s t.at) { seats = slice_set s.seats s.bound seat }
  pub placed : answered.placed ≡ is_some (placed_on answered.reply)

-- Without a tenant of that number the answer is error 11.
pub record HasNoTenant (s : SessionSeen) (answered : Answered) (t : SessionSeen) : Type 0 where
  pub reply : answered.reply ≡ Refused NoTenant
  pub placed : answered.placed ≡ is_some (placed_on answered.reply)
  pub session : t ≡ s

abbrev pub Asks : SessionSeen → Request → Answered → SessionSeen → Type 0
Asks s request answered t =
    (s.bound < length s.seats → AsksBound s request answered t) × (length s.seats ≤ s.bound → HasNoTenant s answered t)

-- A wait changes nothing that the session holds.
abbrev pub WaitsFor : SessionSeen → (job : ℕ) → Bool → SessionSeen → Type 0
WaitsFor s job stops t = t ≡ s
