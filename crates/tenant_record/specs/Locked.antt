-- What a call under a tenant's lock does to the cell and to the tokens.
use Rattle.std.specs.Prelude.{ℕ, ◌≡◌, ◌++◌, List, length, Option, Some, None, slice_set, if◌then◌else◌}
use Rattle.job_language.specs.Recorded.{is_entry, is_recorded_reply}
use Rattle.job_language.specs.declared.answers.Answer.TheVariants as answer
use Rattle.job_language.specs.declared.answers.Came.{Came}
use Rattle.job_language.specs.declared.answers.Moved.{Moved}
use Rattle.job_language.specs.declared.answers.Reply.{Reply}
use Rattle.job_language.specs.declared.requests.Request.{Request}
use Rattle.job_language.specs.declared.steps.Step.TheVariants.{Ask, Arrive, Advance}
use Rattle.tenant_model.specs.Told.{placed_on}
use Rattle.tenant_record.specs.Cell.{CellData, state_of, askers_of, touched, marked, entered}
use Rattle.tenant_record.specs.History.{entries_of}
use Rattle.tenant_record.specs.PassData.{PassData, advanced, goes_home}
use Rattle.tenant_record.specs.Places.{place, pass_in, due_slot, due_after, woken, returned, taken, placed_pass, arrived_pass, arrived_place}
use Rattle.tenant_record.specs.SeatData.{SeatData, asked}
use Rattle.tenant_record.specs.declared.places.Place.{Place}
use Rattle.tenant_record.specs.declared.places.Place.TheVariants.{Home}

-- the pass after an advance with that answer, unless it went home
abbrev pub pass_back : PassData → Moved → (entries : ℕ) → Option PassData
pass_back p m entries = if goes_home m then None else Some (advanced p m entries)

-- the places after it, before anybody is called
abbrev pub home_after : List Place → PassData → Moved → (entries : ℕ) → List Place
home_after home p m entries = returned home (advanced p m entries) m

-- After an advance of a pass's slot with that answer, the cell is d, the pass q comes back unless it went home, and that slot is due.
pub record IsMoved (c : CellData) (p : PassData) (m : Moved) (slot : Option ℕ) (q : Option PassData) (d : CellData) : Type 0 where
  pub history : d.history ≡ c.history ++ entries_of (Advance p.slot) (answer.Moved m)
  pub tenant : d.tenant ≡ c.tenant
  pub config : d.config ≡ c.config
  pub askers : d.askers ≡ c.askers
  pub idle_since : d.idle_since ≡ marked c.idle_since p.slot m (length c.history)
  pub pass : q ≡ pass_back p m (length c.history)
  pub due : slot ≡ due_after (is_entry (answer.Moved m)) c.config (state_of d) (home_after c.home p m (length c.history))
  pub home : d.home ≡ woken slot (home_after c.home p m (length c.history))

-- the places after an arrival at a slot, before anybody is called
abbrev pub home_arrived : List Place → ℕ → Came → List Place
home_arrived home at came = slice_set home at (arrived_place came (place home at))

-- After an arrival at a slot with that answer, the cell is d, the slot's pass is q if the arrival found a row, and that slot is due.
pub record IsArrived (c : CellData) (at : ℕ) (came : Came) (slot : Option ℕ) (q : Option PassData) (d : CellData) : Type 0 where
  pub history : d.history ≡ c.history ++ entries_of (Arrive at) (answer.Came came)
  pub tenant : d.tenant ≡ c.tenant
  pub config : d.config ≡ c.config
  pub askers : d.askers ≡ c.askers
  pub idle_since : d.idle_since ≡ touched (entered at (is_entry (answer.Came came))) c.idle_since
  pub pass : q ≡ arrived_pass came (pass_in (place c.home at))
  pub due : slot ≡ due_after (is_entry (answer.Came came)) c.config (state_of d) (home_arrived c.home at came)
  pub home : d.home ≡ woken slot (home_arrived c.home at came)

-- After an ask with that reply, the cell is d and the seat is t, the pass of the slot where a job was placed is q, and that slot is due.
pub record IsAsked (c : CellData) (s : SeatData) (r : Request) (reply : Reply) (slot : Option ℕ) (q : Option PassData) (d : CellData) (t : SeatData) : Type 0 where
  pub history : d.history ≡ c.history ++ entries_of (Ask r) (answer.Replied reply)
  pub tenant : d.tenant ≡ c.tenant
  pub config : d.config ≡ c.config
  pub askers : d.askers ≡ c.askers ++ askers_of s.number reply
  pub idle_since : d.idle_since ≡ touched (placed_on reply) c.idle_since
  pub seat : t ≡ asked s r reply
  pub pass : q ≡ placed_pass (placed_on reply) c.home
  pub due : slot ≡ due_after (is_recorded_reply reply) c.config (state_of d) (taken (placed_on reply) c.home)
  pub home : d.home ≡ woken slot (taken (placed_on reply) c.home)

-- the cell with a pass put home
abbrev pub given_home : CellData → PassData → CellData
given_home c p = record c { home = slice_set c.home p.slot (Home p) }

-- A pass was put home and a worker called at the same moment: that slot is due, and the cell is d.
pub record IsHandedOver (c : CellData) (p : PassData) (slot : Option ℕ) (d : CellData) : Type 0 where
  pub due : slot ≡ due_slot c.config (state_of c) (given_home c p).home
  pub cell : d ≡ record c { home = woken slot (given_home c p).home }
