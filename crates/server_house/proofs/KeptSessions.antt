-- Whatever a session asks, it stays at the same tenants and the same queues.
use Rattle.std.proofs.Common.{◌≡◌, ◌≤◌, ◌<◌, ◌⊎◌, inl, inr, ℕ, Bool, true, false, List, [], ◌∷◌, Option, Some, None, length, refl, ap, ◌∙◌}
use Rattle.std.specs.Prelude.{MatchBool, MatchOption}
use Rattle.std.proofs.lemmas.Bool.Decides.{leb_tells}
use Rattle.job_language.specs.declared.answers.Moved.{Moved}
use Rattle.job_language.specs.declared.answers.Moved.TheVariants as moved
use Rattle.job_language.specs.declared.requests.Request.{Request}
use Rattle.job_step.specs.declared.segments.View.{View}
use Rattle.job_step.specs.declared.segments.View.TheVariants as view
use Rattle.market_config.specs.declared.calls.Call.{Call}
use Rattle.nested_wait.specs.Runs.{Attends, Ends, GoesOn, Leads, Reaches}
use Rattle.nested_wait.specs.Turns.{MovesBy, Turn, TurnFrom}
use Rattle.nested_wait.specs.declared.attending.Attended.{Attended}
use Rattle.nested_wait.specs.declared.attending.Attended.TheVariants.{Below, Full, Stopped}
use Rattle.server_doors.specs.Sessions.{SessionSeen}
use Rattle.server_doors.specs.SessionWays as session
use Rattle.server_doors.specs.SessionWays.{Sees, Commits, Advances, HasHeight, Waits}
use Rattle.server_doors.specs.Slots.{SlotsSeen}
use Rattle.session_core.specs.declared.doors.Answered.{Answered}
use Rattle.tenant_record.specs.PassData.{PassData}
use Rattle.worker_main.specs.Pushes.{PushesDue, RingerSeen}
use Rattle.server_house.specs.Owned.{AsksAndAttends, AttendsIf}
use Rattle.server_house.specs.declared.owned.Told.{Told}

queues_kept : (due : Option Call) (s t : RingerSeen) → PushesDue s due t → t.queues ≡ s.queues
queues_kept None s t e = ap (λ (r : RingerSeen). r.queues) e
queues_kept (Some call) s t pushes = elim pushes [
  | inl e ↦ ap (λ (r : RingerSeen). r.queues) e
  | inr none ↦ ap (λ (r : RingerSeen). r.queues) none.0
]

-- the same doors, and the same queues
abbrev pub Same : SessionSeen → SessionSeen → Type 0
Same s t = (t.at.doors.doors ≡ s.at.doors.doors) × (t.at.ringer.queues ≡ s.at.ringer.queues)

equal : (s t : SessionSeen) → t ≡ s → Same s t
equal s t e = (ap (λ (x : SessionSeen). x.at.doors.doors) e, ap (λ (x : SessionSeen). x.at.ringer.queues) e)

joined : (r s t : SessionSeen) → Same r s → Same s t → Same r t
joined r s t a b = (b.0 ∙ a.0, b.1 ∙ a.1)

pub doors_of : (A B : Type 0) (X : PassData → Type 0) (p : Option PassData) (s t : SlotsSeen) → MatchOption p (A × B × (t ≡ s)) (λ q. (t.doors ≡ s.doors) × X q) → t.doors ≡ s.doors
doors_of A B X None s t is = ap (λ (x : SlotsSeen). x.doors) is.2
doors_of A B X (Some q) s t is = is.0

advance_same : (s t : SessionSeen) (m : Moved) → Advances s m t → Same s t
advance_same s t m is = (doors_of _ _ _ s.at.doors.pass s.at.doors t.at.doors is.1.0, queues_kept is.0 s.at.ringer t.at.ringer is.1.1)

moves_same : (seen : View) (s t : SessionSeen) (m : Moved) → MovesBy Commits Advances seen s m t → Same s t
moves_same (view.Top top) s t m is = (doors_of _ _ _ s.at.doors.pass s.at.doors t.at.doors is.1.0, queues_kept is.0 s.at.ringer t.at.ringer is.1.1)
moves_same view.Bare s t m is = advance_same s t m is
moves_same view.Unshared s t m is = advance_same s t m is

abbrev Takes : SessionSeen → Moved → SessionSeen → Type 0
Takes = TurnFrom (Turn Sees Commits Advances) HasHeight 1

turn_same : (s t : SessionSeen) (m : Moved) → Takes s m t → Same s t
turn_same s t m is = moves_same is.1.2.0 s t m is.1.2.1.1

goes_same : (m : Moved) (s t : SessionSeen) → GoesOn Waits m s t → Same s t
goes_same moved.Idle s t is = equal s t is.1
goes_same moved.Full s t is = absurd is
goes_same moved.Ran s t is = equal s t is
goes_same (moved.Nested n) s t is = equal s t is
goes_same moved.Freed s t is = equal s t is
goes_same moved.Left s t is = equal s t is
goes_same moved.Stale s t is = equal s t is

leads_same : (ms : List Moved) (s t : SessionSeen) → Leads Takes Waits ms s t → Same s t
leads_same [] s t is = equal s t is
leads_same (m ∷ ms) s t is =
    let f = is.0 in
    let g = is.1 in
    joined s f t (turn_same s f m is.2.0) (joined f g t (goes_same m f g is.2.1) (leads_same ms g t is.2.2))

reaches_same : (least : ℕ) (s t : SessionSeen) → Reaches Takes Waits least s t → Same s t
reaches_same least s t is = leads_same is.answers s t is.leads

attends_same : (how : Attended) (s t : SessionSeen) → Attends (Turn Sees Commits Advances) HasHeight Waits 1 how s t → Same s t
attends_same Below s t is = reaches_same 0 s t is.0
attends_same Full s t is = joined s is.0 t (reaches_same 0 s is.0 is.1.0) (turn_same is.0 t moved.Full is.1.1)
attends_same Stopped s t is = elim is [
  | inl stops ↦ joined s stops.0 t (reaches_same 0 s stops.0 stops.2.0) (joined stops.0 stops.1 t (turn_same stops.0 stops.1 moved.Idle stops.2.1) (equal stops.1 t stops.2.2.1))
  | inr counted ↦ reaches_same _ s t counted
]

asks_same : (s t : SessionSeen) (request : Request) (answered : Answered) → session.Asks s request answered t → Same s t
asks_same s t request answered is = elim (leb_tells (length s.seats) s.bound) [
  | inl none ↦ equal s t ((is.1 none.1).session)
  | inr bound ↦
      let asks = is.0 bound.1 in
      (asks.asks.doors, queues_kept asks.due s.at.ringer t.at.ringer asks.pushes)
]

attended_same : (placed : Bool) (how : Option Attended) (s t : SessionSeen) → AttendsIf (Attends (Turn Sees Commits Advances) HasHeight Waits 1) placed how s t → Same s t
attended_same true how s t is = attends_same is.0 s t is.1.1
attended_same false how s t is = equal s t is.1

pub asked_same : (request : Request) (told : Told) (s t : SessionSeen) → AsksAndAttends session.Asks (Attends (Turn Sees Commits Advances) HasHeight Waits 1) request told s t → Same s t
asked_same request told s t is =
    let mid = is.1 in
    joined s mid t (asks_same s mid request (record { reply = told.reply; placed = is.0 }) is.2.0) (attended_same is.0 told.attended mid t is.2.1)
