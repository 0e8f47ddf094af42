-- Whatever a worker does, it stays at the same tenants.
use Rattle.std.proofs.Common.{◌≡◌, Bool, ℕ, zero, suc, inl, inr, Option, Some, None, ap, ◌∙◌}
use Rattle.std.specs.Prelude.{MatchOption}
use Rattle.job_language.specs.declared.answers.Came.{Came}
use Rattle.job_language.specs.declared.answers.Came.TheVariants as came
use Rattle.job_language.specs.declared.answers.Moved.{Moved}
use Rattle.job_language.specs.declared.answers.Moved.TheVariants as moved
use Rattle.job_step.specs.declared.segments.View.{View}
use Rattle.job_step.specs.declared.segments.View.TheVariants as view
use Rattle.market_config.specs.declared.calls.Call.{Call}
use Rattle.nested_wait.specs.Turns.{MovesBy}
use Rattle.server_doors.specs.Slots.{SlotsSeen}
use Rattle.server_doors.specs.SlotWays as ways
use Rattle.worker_main.specs.Slots.{SlotSeen, advances_of, commits_of, TakesOne}
use Rattle.worker_main.specs.Visits.{AfterArriving, AfterBelow, AfterTurn, EndsVisit, GoesAgain, TakesRound, Told, Visits}
use Rattle.worker_main.specs.Works.{AfterPopping, ServesCall}
use Rattle.worker_main.specs.declared.visiting.Visiting.{Visiting}
use Rattle.server_house.specs.Workers.{ways_there}
use Rattle.server_house.proofs.KeptSessions.{doors_of}

-- a worker at the doors of tenants
abbrev Worker : Type 0
Worker = SlotSeen SlotsSeen

abbrev pub AtSame : Worker → Worker → Type 0
AtSame s t = t.doors.doors ≡ s.doors.doors

equal : (s t : Worker) → t ≡ s → AtSame s t
equal s t e = ap (λ (w : Worker). w.doors.doors) e

equal_doors : (s t : Worker) → t.doors ≡ s.doors → AtSame s t
equal_doors s t e = ap (λ (d : SlotsSeen). d.doors) e

home_kept : (s t : SlotsSeen) → ways.GoesHome s t → t.doors ≡ s.doors
home_kept s t is = at_home s.pass is where
  at_home : (p : Option _) → MatchOption p (t ≡ s) (λ q. ways.LeavesSlot q s t) → t.doors ≡ s.doors
  at_home None e = ap (λ (d : SlotsSeen). d.doors) e
  at_home (Some q) leaves = leaves.doors

hands_kept : (s t : SlotsSeen) (due : Option Call) → ways.HandsOver s due t → t.doors ≡ s.doors
hands_kept s t due is = at_hand s.pass is where
  at_hand : (p : Option _) → MatchOption p ((due ≡ None) × (t ≡ s)) (λ q. ways.HandsSlot q s due t) → t.doors ≡ s.doors
  at_hand None e = ap (λ (d : SlotsSeen). d.doors) e.1
  at_hand (Some q) hands = hands.doors

module _ (v : Visiting) where
  advance_kept : (s t : Worker) (m : Moved) → advances_of ways_there.advances s m t → AtSame s t
  advance_kept s t m is = doors_of _ _ _ s.doors.pass s.doors t.doors is.1.0

  moves_kept : (seen : View) (s t : Worker) (m : Moved) → MovesBy (commits_of ways_there.commits) (advances_of ways_there.advances) seen s m t → AtSame s t
  moves_kept (view.Top top) s t m is = doors_of _ _ _ s.doors.pass s.doors t.doors is.1.0
  moves_kept view.Bare s t m is = advance_kept s t m is
  moves_kept view.Unshared s t m is = advance_kept s t m is

  turn_kept : (s t : Worker) (m : Moved) → TakesOne ways_there s m t → AtSame s t
  turn_kept s t m turn = moves_kept turn.0 s t m turn.1.1

  below_kept : (r : _) (s t : Worker) → AfterBelow ways_there v r s t → AtSame s t
  below_kept r s t is = elim is [
    | inl advanced ↦ advance_kept s t advanced.0 advanced.1.0
    | inr shared ↦ hands_kept s.doors t.doors shared.2.0 shared.2.1.0
  ]

  after_kept : (m : Moved) (r : _) (s t : Worker) → AfterTurn ways_there m r s t → AtSame s t
  after_kept moved.Idle r s t is = equal_doors s t is.1.0.0.0
  after_kept moved.Full r s t is = equal s t is.1
  after_kept moved.Ran r s t is = equal s t is.1
  after_kept (moved.Nested n) r s t is = equal s t is.1
  after_kept moved.Freed r s t is = equal s t is.1
  after_kept moved.Left r s t is = equal s t is.1
  after_kept moved.Stale r s t is = equal s t is.1

  round_kept : (r : _) (s t : Worker) → TakesRound ways_there v r s t → AtSame s t
  round_kept r s t is = elim is.1.1 [
    | inl low ↦ below_kept r s t low.1
    | inr some ↦ after_kept some.1.0 r some.1.1 t some.1.2.1 ∙ turn_kept s some.1.1 some.1.0 some.1.2.0
  ]

  again_kept : (l : Told) (n : ℕ) (s t : Worker) → GoesAgain ways_there v l n s t → AtSame s t
  again_kept l zero s t is = equal s t is
  again_kept l (suc n) s t is = round_kept _ is.0 t is.1.1.1 ∙ again_kept l n s is.0 is.1.0

  ends_kept : (l : Told) (n : ℕ) (s t : Worker) → EndsVisit ways_there v l n s t → AtSame s t
  ends_kept l n s t is = elim is [
    | inl left ↦ round_kept _ s t left.1
    | inr rest ↦ elim rest [
      | inl ended ↦ home_kept ended.0.doors t.doors ended.1.1.0 ∙ round_kept _ s ended.0 ended.1.0.1
      | inr other ↦ home_kept s.doors t.doors other.1.0
    ]
  ]

  visits_kept : (l : Told) (s t : Worker) → Visits ways_there v l s t → AtSame s t
  visits_kept l s t is = ends_kept l is.0 is.1 t is.2.1 ∙ again_kept l is.0 s is.1 is.2.0

  arriving_kept : (l : Told) (answer : Came) (s t : Worker) → AfterArriving ways_there v l answer s t → AtSame s t
  arriving_kept l (came.At row) s t is = visits_kept l s t is
  arriving_kept l came.Nothing s t is = equal s t is
  arriving_kept l came.Full s t is = equal s t is

  popping_kept : (l : Told) (popped : Option Call) (s t : Worker) → AfterPopping ways_there v l popped s t → AtSame s t
  popping_kept l None s t is = equal s t is
  popping_kept l (Some call) s t is = arriving_kept l is.0 is.1 t is.2.1 ∙ is.2.0.1.0.doors

  pub call_kept : (l : Told) (called : Bool) (s t : Worker) → ServesCall ways_there v l called s t → AtSame s t
  call_kept l called s t is = popping_kept l is.0 is.1 t is.2.1.1 ∙ equal_doors s is.1 is.2.1.0.0
