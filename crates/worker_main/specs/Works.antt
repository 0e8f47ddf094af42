-- What a worker does until the signal says to stop.
use Rattle.std.specs.Prelude.{◌≡◌, ℕ, zero, suc, ◌≤◌, ◌⊎◌, Bool, Option, Some, None, is_some}
use Rattle.market_config.specs.declared.calls.Call.{Call}
use Rattle.nested_wait.specs.Runs.{most_turns}
use Rattle.worker_main.specs.Slots.{SlotSeen, Ways, PopsAt}
use Rattle.worker_main.specs.Visits.{Told, Comes}
use Rattle.worker_main.specs.declared.visiting.Visiting.{Visiting}

-- after a pop: it comes for the call, if there was one
abbrev pub AfterPopping : {D : Type 0} → Ways D → Visiting → Told → Option Call → SlotSeen D → SlotSeen D → Type 0
AfterPopping {D = D} w v l None s t = t ≡ s
AfterPopping {D = D} w v l (Some call) s t = Comes w v l call s t

abbrev pub TakesTurn : {D : Type 0} → Ways D → Visiting → Told → SlotSeen D → SlotSeen D → Type 0
TakesTurn {D = D} w v l s t = (popped : Option Call) × (f : SlotSeen D) × (PopsAt s popped f × AfterPopping w v l popped f t)

-- a turn that says whether there was a call
abbrev pub ServesCall : {D : Type 0} → Ways D → Visiting → Told → (is_called : Bool) → SlotSeen D → SlotSeen D → Type 0
ServesCall {D = D} w v l is_called s t =
    (popped : Option Call) × (f : SlotSeen D) × ((is_called ≡ is_some popped) × (PopsAt s popped f × AfterPopping w v l popped f t))

-- that many turns, one after another
abbrev pub TakesTurns : {D : Type 0} → Ways D → Visiting → Told → (turns : ℕ) → SlotSeen D → SlotSeen D → Type 0
TakesTurns {D = D} w v l zero s t = t ≡ s
TakesTurns {D = D} w v l (suc n) s t = (f : SlotSeen D) × (TakesTurns w v l n s f × TakesTurn w v l f t)

-- It takes turns until the signal says to stop, or it has taken 2^64 - 1.
abbrev pub Works : {D : Type 0} → Ways D → Visiting → Told → SlotSeen D → SlotSeen D → Type 0
Works {D = D} w v l s t = (turns : ℕ) × (TakesTurns w v l turns s t × (l.stops ⊎ (most_turns ≤ turns)))
