-- One thread at the slots of tenants and at the queues.
use Rattle.std.specs.Prelude.{◌≡◌, ℕ, Bool, Option}
use Rattle.job_language.specs.declared.answers.Moved.{Moved}
use Rattle.job_language.specs.declared.answers.Came.{Came}
use Rattle.job_step.specs.declared.segments.Top.{Top}
use Rattle.job_step.specs.declared.segments.View.{View}
use Rattle.market_config.specs.declared.calls.Call.{Call}
use Rattle.nested_wait.specs.Turns.{Turn}
use Rattle.worker_main.specs.Pushes.{RingerSeen, PushesDue, Pops}

-- the thread at the queues, and its doors
pub record SlotSeen (D : Type 0) : Type 0 where
  pub ringer : RingerSeen
  pub doors : D

-- what the calls of some doors may see and lead to
pub record Ways (D : Type 0) : Type 1 where
  pub views : D → View → Type 0
  pub commits : D → Top → Moved → Option Call → D → Type 0
  pub advances : D → Moved → Option Call → D → Type 0
  pub heights : D → ℕ → Type 0
  pub pauses : D → Bool → D → Type 0
  pub homes : D → D → Type 0
  pub hands : D → Option Call → D → Type 0
  pub arrives : D → Call → Came → Option Call → D → Type 0

abbrev pub ways : {D : Type 0} → (D → View → Type 0) → (D → Top → Moved → Option Call → D → Type 0) → (D → Moved → Option Call → D → Type 0) →
    (D → ℕ → Type 0) → (D → Bool → D → Type 0) → (D → D → Type 0) → (D → Option Call → D → Type 0) → (D → Call → Came → Option Call → D → Type 0) → Ways D
ways {D = D} views commits advances heights pauses homes hands arrives = record {
  views = views;
  commits = commits;
  advances = advances;
  heights = heights;
  pauses = pauses;
  homes = homes;
  hands = hands;
  arrives = arrives;
}

abbrev pub views_of : {D : Type 0} → (D → View → Type 0) → SlotSeen D → View → Type 0
views_of {D = D} views s seen = views s.doors seen

-- a commit, and the slot that it made due is pushed
abbrev pub commits_of : {D : Type 0} → (D → Top → Moved → Option Call → D → Type 0) → SlotSeen D → Top → Moved → SlotSeen D → Type 0
commits_of {D = D} commits s top m t = (due : Option Call) × (commits s.doors top m due t.doors × PushesDue s.ringer due t.ringer)

abbrev pub advances_of : {D : Type 0} → (D → Moved → Option Call → D → Type 0) → SlotSeen D → Moved → SlotSeen D → Type 0
advances_of {D = D} advances s m t = (due : Option Call) × (advances s.doors m due t.doors × PushesDue s.ringer due t.ringer)

abbrev pub heights_of : {D : Type 0} → (D → ℕ → Type 0) → SlotSeen D → ℕ → Type 0
heights_of {D = D} heights s h = heights s.doors h

abbrev pub pauses_of : {D : Type 0} → (D → Bool → D → Type 0) → SlotSeen D → Bool → SlotSeen D → Type 0
pauses_of {D = D} pauses s stops t = pauses s.doors stops t.doors × (t.ringer ≡ s.ringer)

abbrev pub Homes : {D : Type 0} → (D → D → Type 0) → SlotSeen D → SlotSeen D → Type 0
Homes {D = D} homes s t = homes s.doors t.doors × (t.ringer ≡ s.ringer)

-- the slot is handed over, and the slot that this made due is pushed
abbrev pub HandsOver : {D : Type 0} → (D → Option Call → D → Type 0) → SlotSeen D → SlotSeen D → Type 0
HandsOver {D = D} hands s t = (due : Option Call) × (hands s.doors due t.doors × PushesDue s.ringer due t.ringer)

abbrev pub Arrives : {D : Type 0} → (D → Call → Came → Option Call → D → Type 0) → SlotSeen D → Call → Came → SlotSeen D → Type 0
Arrives {D = D} arrives s call came t = (due : Option Call) × (arrives s.doors call came due t.doors × PushesDue s.ringer due t.ringer)

abbrev pub PopsAt : {D : Type 0} → SlotSeen D → Option Call → SlotSeen D → Type 0
PopsAt {D = D} s popped t = (t.doors ≡ s.doors) × Pops s.ringer popped t.ringer

-- one turn of the slot: what is seen of it decides whether a commit or an advance
abbrev pub TakesOne : {D : Type 0} → Ways D → SlotSeen D → Moved → SlotSeen D → Type 0
TakesOne {D = D} w s m t = Turn (views_of w.views) (commits_of w.commits) (advances_of w.advances) s m t
