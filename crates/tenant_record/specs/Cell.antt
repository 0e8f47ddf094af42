-- What a tenant's lock keeps, and when it is right.
use Rattle.std.specs.Prelude.{ℕ, ◌≡◌, ◌≤◌, ◌<◌, ◌+◌, ◌==◌, ◌⊎◌, Bool, true, false, not, ◌||◌, ◌&&◌, List, [], ◌∷◌, length, take, drop, replicate, Option, Some, None, IsSome, All, count_by, nat_lt}
use Rattle.std.specs.Prelude.{slice_set, slice_index_or, if◌then◌else◌}
use Rattle.job_language.specs.Brought.{job_of}
use Rattle.job_language.specs.Recorded.{is_entry, is_recorded_reply}
use Rattle.job_language.specs.declared.answers.Answer.{Answer}
use Rattle.job_language.specs.declared.answers.Answer.TheVariants.{Replied}
use Rattle.job_language.specs.declared.answers.Came.{Came}
use Rattle.job_language.specs.declared.answers.Came.TheVariants.{Nothing}
use Rattle.job_language.specs.declared.answers.Moved.{Moved}
use Rattle.job_language.specs.declared.answers.Moved.TheVariants.{Idle}
use Rattle.job_language.specs.declared.answers.Reply.{Reply}
use Rattle.job_language.specs.declared.answers.Reply.TheVariants.{Placed, Refused}
use Rattle.job_language.specs.declared.errors.Error.TheVariants.{NoMemory}
use Rattle.job_language.specs.declared.requests.Request.{Request}
use Rattle.job_language.specs.declared.steps.Entry.{Entry}
use Rattle.job_language.specs.declared.steps.Step.{Step}
use Rattle.job_language.specs.declared.steps.Step.TheVariants.{Ask, Arrive, Advance}
use Rattle.job_language.specs.declared.tenants.Tenant.{Tenant}
use Rattle.job_language.specs.declared.tenants.TheConstants.{MAX_SLOTS}
use Rattle.tenant_model.specs.Advance.{advance}
use Rattle.tenant_model.specs.State.{State}
use Rattle.tenant_model.specs.Walks.{height}
use Rattle.tenant_record.specs.History.{state_after, IsHistory}
use Rattle.tenant_record.specs.PassData.{PassData, has_room, still_after}
use Rattle.tenant_record.specs.Places.{place, is_in, pass_in, IsPlaceOf, first_places}
use Rattle.tenant_record.specs.Replayed.{ask_within}
use Rattle.tenant_record.specs.SeatData.{SeatData, has_seat_room}
use Rattle.arena_core.specs.Views.{Commits}
use Rattle.arena_steps.specs.Within.{advance_within, arrive_within}
use Rattle.job_step.specs.declared.segments.Top.{Top}
use Rattle.tenant_record.specs.declared.places.Place.{Place}

-- A tenant's number and configuration, its history, the number of the seat of each ask in the history, where the pass of each slot is, and since how many entries each slot is idle, if that is known.
pub record CellData : Type 0 where
  pub tenant : ℕ
  pub config : Tenant
  pub history : List Entry
  pub askers : List ℕ
  pub home : List Place
  pub idle_since : List (Option ℕ)

-- Is the slot of the pass one of the cell's, and its pass out?
abbrev pub has_slot_of : CellData → PassData → Bool
has_slot_of c p = (p.tenant == c.tenant) && nat_lt p.slot c.config.slots && not (is_in (place c.home p.slot))

-- the state that the arena stands for
abbrev pub state_of : CellData → State
state_of c = state_after c.config c.history

-- Is the step an arrival at the slot or an advance of it?
abbrev pub is_step_on : ℕ → Step → Bool
is_step_on slot (Ask r) = false
is_step_on slot (Arrive s) = s == slot
is_step_on slot (Advance s) = s == slot

abbrev pub is_on : ℕ → Entry → Bool
is_on slot e = is_step_on slot e.step

abbrev pub is_ask : Step → Bool
is_ask (Ask r) = true
is_ask x = false

abbrev pub places_on : ℕ → Answer → Bool
places_on slot (Replied (Placed n s)) = s == slot
places_on slot a = false

-- Is the entry of the slot, or does it place a job there?
abbrev pub touches : ℕ → Entry → Bool
touches slot e = is_on slot e || places_on slot e.answer

-- The slot was idle after the first k entries, and none of the others touches it.
pub record IsStillSince (c : Tenant) (history : List Entry) (slot k : ℕ) : Type 0 where
  pub within : k ≤ length history
  pub untouched : All (λ (e : Entry). touches slot e ≡ false) (drop k history)
  pub idle : (advance (state_after c (take k history)) slot).0 ≡ Idle

abbrev pub IsStill : Tenant → List Entry → ℕ → Option ℕ → Type 0
IsStill c history slot None = Unit {0}
IsStill c history slot (Some k) = IsStillSince c history slot k

abbrev pub AreStill : Tenant → List Entry → List (Option ℕ) → Type 0
AreStill c history idle_since = (slot : ℕ) → slot < MAX_SLOTS → IsStill c history slot (slice_index_or idle_since slot None)

-- The number of each slot's entries is counted.
abbrev pub AreCounted : List Entry → List ℕ → Type 0
AreCounted history counts = (slot : ℕ) → slot < MAX_SLOTS → slice_index_or counts slot 0 ≡ count_by (is_on slot) history

-- The pass of each reserved slot with nothing on it is home.
abbrev pub AreHome : Tenant → State → List Place → Type 0
AreHome c s home = (slot : ℕ) → slot < c.reserved → height s.rows slot ≡ 0 → is_in (place home slot) ≡ true

-- A slot with rows on it is out: somebody has its pass, to move it.
abbrev pub AreAttended : State → List Place → Type 0
AreAttended s home = (slot : ℕ) → is_in (place home slot) ≡ true → height s.rows slot ≡ 0

abbrev pub IsAttended : CellData → Type 0
IsAttended c = AreAttended (state_of c) c.home

-- The passes that are home are those of their slots.
abbrev pub ArePlaced : ℕ → List Place → Type 0
ArePlaced tenant home = (slot : ℕ) → IsPlaceOf tenant slot (place home slot)

-- A cell is right if its history replays, it names one seat for each ask in it, what it knows of idle slots is true, and the passes that must be home are.
pub record IsRight (c : CellData) : Type 0 where
  pub history : IsHistory c.config c.history
  pub askers : length c.askers ≡ count_by (λ (e : Entry). is_ask e.step) c.history
  pub idle_since : AreStill c.config c.history c.idle_since
  pub home : AreHome c.config (state_of c) c.home
  pub places : ArePlaced c.tenant c.home
  pub slots : length c.home ≡ c.config.slots

-- a cell of a tenant that has done nothing yet
abbrev pub first_cell : ℕ → Tenant → CellData
first_cell tenant config = record { tenant = tenant; config = config; history = []; askers = []; home = first_places tenant config.steps config.slots; idle_since = replicate MAX_SLOTS None }

-- the answer of an arrival, and the state after it: nothing happens if the pass of the slot is out
abbrev pub arrive_by : State → ℕ → Option PassData → Came × State
arrive_by s slot None = (Nothing, s)
arrive_by s slot (Some p) = arrive_within (has_room p) s slot

abbrev pub arrival : CellData → ℕ → Came × State
arrival c slot = arrive_by (state_of c) slot (pass_in (place c.home slot))

-- the answer of an advance of a pass's slot, and the state after it
abbrev pub advance_of : CellData → PassData → Moved × State
advance_of c p = advance_within (has_room p) (state_of c) p.slot

-- With that answer the private run of a frame takes the place of an advance of a pass's slot.
abbrev pub IsCommitted : CellData → PassData → Top → Moved → CellData → Type 0
IsCommitted c p top m d = Commits (has_room p) (state_of c) p.slot top m (state_of d)

-- An ask is answered as the definitions say, if there is room in the seat's log. Error 9 changes nothing, and comes only if the ask brings a job.
abbrev pub AnswersAsk : CellData → SeatData → Request → Reply → CellData → Type 0
AnswersAsk c seat request reply d =
    ((reply, state_of d) ≡ ask_within (has_seat_room seat) (state_of c) request) ⊎ ((reply ≡ Refused NoMemory) × (state_of d ≡ state_of c) × IsSome (job_of request))

-- the numbers of seats that are named for an ask with that reply
abbrev pub askers_of : (number : ℕ) → Reply → List ℕ
askers_of number reply = if is_recorded_reply reply then number ∷ [] else []

-- one entry more of a slot, if there is one
abbrev pub counted : List ℕ → ℕ → (is_entry : Bool) → List ℕ
counted counts slot is_entry = if is_entry then slice_set counts slot (slice_index_or counts slot 0 + 1) else counts

-- It is not known any more that the slot is idle, if one is named.
abbrev pub touched : Option ℕ → List (Option ℕ) → List (Option ℕ)
touched None idle_since = idle_since
touched (Some slot) idle_since = slice_set idle_since slot None

-- the same after an advance of the slot with that answer, which came at that count of entries
abbrev pub marked : List (Option ℕ) → ℕ → Moved → (entries : ℕ) → List (Option ℕ)
marked idle_since slot m entries = slice_set idle_since slot (still_after (slice_index_or idle_since slot None) m entries)

-- the slot, if an entry was made on it
abbrev pub entered : ℕ → (is_entry : Bool) → Option ℕ
entered slot is_entry = if is_entry then Some slot else None
