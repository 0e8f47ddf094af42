-- An arena with the history that replays to it.
use Rattle.std.specs.Prelude.{ℕ, List, Bool, not, ◌&&◌, if◌then◌else◌, Option, option_map}
use Rattle.job_language.specs.declared.errors.Error.TheVariants.{HistoryFull}
use Rattle.job_language.specs.declared.answers.Reply.{Reply}
use Rattle.job_language.specs.declared.answers.Reply.TheVariants.{Refused}
use Rattle.job_language.specs.declared.answers.Status.{Status}
use Rattle.job_language.specs.declared.requests.Request.{Request}
use Rattle.job_language.specs.declared.steps.Entry.{Entry}
use Rattle.job_language.specs.declared.tenants.Tenant.{Tenant}
use Rattle.tenant_model.specs.Asks.{ask, is_hello, known_job, status}
use Rattle.tenant_model.specs.State.{State}
use Rattle.tenant_record.specs.History.{state_after}
use Rattle.tenant_record.specs.Places.{due_after}
use Rattle.tenant_record.specs.declared.places.Place.{Place}

pub record Replayed : Type 0 where
  pub config : Tenant
  pub history : List Entry

-- the state that the arena stands for
abbrev pub state_of : Replayed → State
state_of r = state_after r.config r.history

-- how far a job is, if it was made and is not retired
abbrev pub status_of : State → (job : ℕ) → Option Status
status_of s job = option_map (status s.rows job) (known_job s job)

-- what is due after an answer, when the passes are there
abbrev pub due_in : Replayed → (is_entry : Bool) → List Place → Option ℕ
due_in r is_entry home = due_after is_entry r.config (state_of r) home

-- Without room for an entry every ask but a hello is refused as at a full history.
abbrev pub ask_within : Bool → State → Request → Reply × State
ask_within has_room s request = if not has_room && not (is_hello request) then (Refused HistoryFull, s) else ask s request
