-- A worker's visit to a slot: its rounds and its end.
use Rattle.std.specs.Prelude.{◌≡◌, ℕ, zero, suc, ◌<◌, ◌≤◌, ◌⊎◌, Bool, if◌then◌else◌}
use Rattle.job_language.specs.declared.answers.Moved.{Moved}
use Rattle.job_language.specs.declared.answers.Moved.TheVariants as moved
use Rattle.job_language.specs.declared.answers.Came.{Came}
use Rattle.job_language.specs.declared.answers.Came.TheVariants as came
use Rattle.market_config.specs.declared.calls.Call.{Call}
use Rattle.nested_wait.specs.Runs.{most_turns}
use Rattle.worker_main.specs.declared.visits.Round.{Round}
use Rattle.worker_main.specs.declared.visits.Round.TheVariants.{Again, Left, Ended}
use Rattle.worker_main.specs.declared.visiting.Visiting.{Visiting}
use Rattle.worker_main.specs.declared.visiting.Visiting.TheVariants.{Sharing}
use Rattle.worker_main.specs.Slots.{SlotSeen, Ways, TakesOne, advances_of, heights_of, pauses_of, Homes, HandsOver, Arrives}

-- what workers hear: that they must stop, or at the look of some number that they may go on
pub record Told : Type 1 where
  pub stops : Type 0
  pub goes : ℕ → Type 0

abbrev pub told : Type 0 → (ℕ → Type 0) → Told
told stops goes = record { stops = stops; goes = goes }

-- A slot without rows was advanced. It has a row again, or it is left, or nothing can run there.
abbrev pub next_round : Moved → Round
next_round (moved.Nested row) = Again
next_round moved.Left = Left
next_round moved.Full = Ended
next_round moved.Idle = Ended
next_round moved.Ran = Again
next_round moved.Freed = Again
next_round moved.Stale = Again

-- without rows, the slot is advanced once; a worker that shares may hand it over in place of that
abbrev pub AfterBelow : {D : Type 0} → Ways D → Visiting → Round → SlotSeen D → SlotSeen D → Type 0
AfterBelow {D = D} w v r s t =
    ((m : Moved) × (advances_of w.advances s m t × (r ≡ next_round m)))
    ⊎ ((v ≡ Sharing) × (r ≡ Left) × HandsOver w.hands s t)

abbrev pub after_pause : (stops : Bool) → Round
after_pause stops = if stops then Ended else Again

-- after a turn of a slot with rows: at Full nothing more is done, and after Idle a pause says whether to go on
abbrev pub AfterTurn : {D : Type 0} → Ways D → Moved → Round → SlotSeen D → SlotSeen D → Type 0
AfterTurn {D = D} w moved.Idle r s t = (stops : Bool) × (pauses_of w.pauses s stops t × (r ≡ after_pause stops))
AfterTurn {D = D} w moved.Full r s t = (r ≡ Ended) × (t ≡ s)
AfterTurn {D = D} w m r s t = (r ≡ Again) × (t ≡ s)

-- a turn of a slot with rows
abbrev pub TakesFrom : {D : Type 0} → Ways D → Round → SlotSeen D → SlotSeen D → Type 0
TakesFrom {D = D} w r s t = (m : Moved) × (f : SlotSeen D) × (TakesOne w s m f × AfterTurn w m r f t)

-- A slot with rows takes a turn, and one without rows is advanced, left or handed over.
abbrev pub TakesRound : {D : Type 0} → Ways D → Visiting → Round → SlotSeen D → SlotSeen D → Type 0
TakesRound {D = D} w v r s t = (h : ℕ) × (heights_of w.heights s h × (((h < 1) × AfterBelow w v r s t) ⊎ ((1 ≤ h) × TakesFrom w r s t)))

-- `rounds` rounds, before each of which a look with its number said to go on
abbrev pub GoesAgain : {D : Type 0} → Ways D → Visiting → Told → (rounds : ℕ) → SlotSeen D → SlotSeen D → Type 0
GoesAgain {D = D} w v l zero s t = t ≡ s
GoesAgain {D = D} w v l (suc n) s t = (f : SlotSeen D) × (GoesAgain w v l n s f × (l.goes n × TakesRound w v Again f t))

-- The visit ends once the slot is left. If it cannot go on, after a look that said to stop, or after 2^64 - 1 rounds, the slot is given home.
abbrev pub EndsVisit : {D : Type 0} → Ways D → Visiting → Told → (rounds : ℕ) → SlotSeen D → SlotSeen D → Type 0
EndsVisit {D = D} w v l n s t =
    (l.goes n × TakesRound w v Left s t)
    ⊎ (((f : SlotSeen D) × ((l.goes n × TakesRound w v Ended s f) × Homes w.homes f t))
    ⊎ ((l.stops ⊎ (most_turns ≤ n)) × Homes w.homes s t))

abbrev pub Visits : {D : Type 0} → Ways D → Visiting → Told → SlotSeen D → SlotSeen D → Type 0
Visits {D = D} w v l s t = (rounds : ℕ) × (f : SlotSeen D) × (GoesAgain w v l rounds s f × EndsVisit w v l rounds f t)

-- an arrival is followed by a visit if it found a row
abbrev pub AfterArriving : {D : Type 0} → Ways D → Visiting → Told → Came → SlotSeen D → SlotSeen D → Type 0
AfterArriving {D = D} w v l (came.At row) s t = Visits w v l s t
AfterArriving {D = D} w v l came.Nothing s t = t ≡ s
AfterArriving {D = D} w v l came.Full s t = t ≡ s

-- what a call that was popped leads to
abbrev pub Comes : {D : Type 0} → Ways D → Visiting → Told → Call → SlotSeen D → SlotSeen D → Type 0
Comes {D = D} w v l call s t = (answer : Came) × (f : SlotSeen D) × (Arrives w.arrives s call answer f × AfterArriving w v l answer f t)
