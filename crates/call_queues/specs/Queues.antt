-- The three levels together, as contracts see them.
use Rattle.std.specs.Prelude.{◌≡◌, ℕ, ◌<◌, List, length, map, slice_index_or}
use Rattle.atomic_table.specs.Seated.{TableId}
use Rattle.market_config.specs.declared.calls.Call.{Call}
use Rattle.call_queues.specs.declared.marks.Marked.{Marked}
use Rattle.call_queues.specs.declared.marks.PassLog.{PassLog}
use Rattle.job_language.specs.declared.tenants.Level.{Level}
use Rattle.job_language.specs.declared.tenants.Level.TheVariants.{High, Normal, Low}
use Rattle.market_config.specs.declared.config.MarketTenant.{MarketTenant}
use Rattle.crossbeam_queue.specs.Fifo.{Held}
use Rattle.call_queues.specs.Order.{no_log, LevelOrder}
use Rattle.call_queues.specs.Rule.{Sees, with_popped}

-- one thing for each level
pub record Three (A : Type 0) : Type 0 where
  pub high : A
  pub normal : A
  pub low : A

abbrev pub three : {A : Type 0} → A → A → A → Three A
three a b c = record { high = a; normal = b; low = c }

abbrev pub at : {A : Type 0} → Three A → Level → A
at t High = t.high
at t Normal = t.normal
at t Low = t.low

abbrev pub with_at : {A : Type 0} → Three A → Level → A → Three A
with_at t High a = record t { high = a }
with_at t Normal a = record t { normal = a }
with_at t Low a = record t { low = a }

-- a level of a lower rank is handed out first
abbrev pub rank : Level → ℕ
rank High = 0
rank Normal = 1
rank Low = 2

-- which queues, and how many passes they have
pub record QueueSet : Type 0 where
  pub levels : Three TableId
  pub passes : ℕ

pub record PassSeen : Type 0 where
  pub queues : QueueSet
  pub number : ℕ
  pub logs : Three PassLog

pub record QueuesSeen : Type 0 where
  pub queues : QueueSet
  pub config : List MarketTenant

-- a pass that did nothing yet
abbrev pub fresh : QueueSet → ℕ → PassSeen
fresh queues k = record { queues = queues; number = k; logs = three no_log no_log no_log }

-- the call is marked with the pass's number and the number of pushes that it made before
abbrev pub marked : ℕ → PassLog → Call → Marked
marked number log call = record { by = number; at = length log.pushed; call = call }

-- at one moment of the call the level held n calls, and what the pass pushed and popped is as in the rule
abbrev pub HeldAt : PassSeen → Level → ℕ → Type 0
HeldAt pass level n = Held n (Sees pass.number (at pass.logs level))

-- no level had a call, each at some moment
abbrev pub FoundNone : PassSeen → Three PassLog → Type 0
FoundNone old logs = (logs ≡ old.logs) × ((level : Level) → HeldAt old level 0)

-- this call was popped from some level, where it stands in the one list, and each higher level was empty at some moment
abbrev pub Found : PassSeen → Three PassLog → Call → Type 0
Found old logs call =
    (level : Level) × (taken : Marked) × (taken.call ≡ call) × (logs ≡ with_at old.logs level (with_popped (at old.logs level) taken))
    × ((items : List Marked) × Sees old.number (with_popped (at old.logs level) taken) items)
    × ((above : Level) → rank above < rank level → HeldAt old above 0)

-- the passes have these numbers, from 0
abbrev pub AreNumbered : List PassSeen → Type 0
AreNumbered passes = (k : ℕ) (d : PassSeen) → k < length passes → (slice_index_or passes k d).number ≡ k

-- `rest` is what a level holds beside what these passes pushed and popped there
abbrev pub IsLeft : List PassSeen → Level → List Marked → Type 0
IsLeft passes level rest = (past : List Marked) × LevelOrder (map (λ p. at p.logs level) passes) past rest
