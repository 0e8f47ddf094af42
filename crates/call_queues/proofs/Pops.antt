-- What pops of the three levels tell together.
use Rattle.std.proofs.Common.{◌≡◌, ℕ, ◌<◌, List, Option, Some, None, MatchOption, subst, arith}
use Rattle.crossbeam_queue.specs.Fifo.{Held}
use Rattle.market_config.specs.declared.calls.Call.{Call}
use Rattle.call_queues.specs.declared.marks.Marked.{Marked}
use Rattle.call_queues.specs.declared.marks.PassLog.{PassLog}
use Rattle.job_language.specs.declared.tenants.Level.{Level}
use Rattle.job_language.specs.declared.tenants.Level.TheVariants.{High, Normal, Low}
use Rattle.call_queues.specs.Rule.{Sees, with_popped}
use Rattle.call_queues.specs.Levels.{LevelPassSeen}
use Rattle.call_queues.specs.Queues.{three, rank, QueueSet, PassSeen, HeldAt, FoundNone, Found}

-- what a pop of one level tells
abbrev pub LevelNone : LevelPassSeen → PassLog → Type 0
LevelNone old log = (log ≡ old.log) × Held 0 (Sees old.number old.log)

abbrev pub LevelFound : LevelPassSeen → PassLog → Call → Type 0
LevelFound old log call = (taken : Marked) × (taken.call ≡ call) × (log ≡ with_popped old.log taken) × ((items : List Marked) × Sees old.number (with_popped old.log taken) items)

module _ (old : PassSeen) (queues : QueueSet) (num : ℕ) (H N L : LevelPassSeen) (e : record { queues = queues; number = num; logs = three H.log N.log L.log } ≡ old)
    (eh : H.number ≡ num) (en : N.number ≡ num) (el : L.number ≡ num) where
  abbrev seen : PassSeen
  seen = record { queues = queues; number = num; logs = three H.log N.log L.log }

  at_num : (n : ℕ) (h : PassLog) → n ≡ num → Held 0 (Sees n h) → Held 0 (Sees num h)
  at_num n h q held = subst (λ k. Held 0 (Sees k h)) q held

  each : (h n l : PassLog) → LevelNone H h → LevelNone N n → LevelNone L l → (level : Level) → HeldAt seen level 0
  each h n l a b c High = at_num H.number H.log eh a.1
  each h n l a b c Normal = at_num N.number N.log en b.1
  each h n l a b c Low = at_num L.number L.log el c.1

  higher : (h n : PassLog) → LevelNone H h → LevelNone N n → (above : Level) → rank above < 2 → HeldAt seen above 0
  higher h n a b High lt = at_num H.number H.log eh a.1
  higher h n a b Normal lt = at_num N.number N.log en b.1
  higher h n a b Low lt = absurd (omega arith)

  -- the low level is looked at last
  pub low_last : (h n l : PassLog) (r : Option Call) → LevelNone H h → LevelNone N n → MatchOption r (LevelNone L l) (λ call. LevelFound L l call)
      → MatchOption r (FoundNone old (three h n l)) (λ call. Found old (three h n l) call)
  low_last h n l None a b c = subst (λ o. FoundNone o (three h n l)) e ((λ i. three (a.0 i) (b.0 i) (c.0 i)), each h n l a b c)
  low_last h n l (Some call) a b f =
      subst (λ o. Found o (three h n l) call) e (Low, f.0, f.1, (λ i. three (a.0 i) (b.0 i) (f.2 i)), (f.3.0, subst (λ k. Sees k (with_popped L.log f.0) f.3.0) el f.3.1), higher h n a b)
