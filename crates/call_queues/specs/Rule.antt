-- What the passes of a level know of it.
use Rattle.std.specs.Prelude.{◌≡◌, ◌≢◌, ℕ, zero, suc, ◌+◌, ◌≤◌, ◌<◌, List, [], ◌∷◌, ◌++◌, length, ◌⊎◌}
use mathlib.Core.Option.{some}
use lib.ListN.{get_elem?}
use Rattle.call_queues.specs.declared.marks.TheConstants.{MAX_CALLS}
use Rattle.call_queues.specs.declared.marks.Marked.{Marked}
use Rattle.call_queues.specs.declared.marks.PassLog.{PassLog}
use Rattle.call_queues.specs.declared.marks.QueueView.{QueueView}
use Rattle.call_queues.specs.declared.marks.QueueView.TheVariants.{Owner, Keeper, Spent}
use Rattle.call_queues.specs.Order.{LevelOrder, no_log}

-- of each number: which pass has it. The keeper is no owner. What is with the keeper is what came back
abbrev pub Fits : ℕ → List ℕ → List PassLog → List Marked → ℕ → QueueView → Type 0
Fits keeper owners logs taken port (Owner p h) = (port ≢ keeper) × (get_elem? owners p ≡ some port) × (get_elem? logs p ≡ some h)
Fits keeper owners logs taken port (Keeper made known out) =
    (port ≡ keeper) × (made ≡ length logs) × (out ≡ taken) × ((p : ℕ) (h : PassLog) → get_elem? known p ≡ some h → (get_elem? owners p ≡ some keeper) × (get_elem? logs p ≡ some h))
Fits keeper owners logs taken port Spent = Unit {0}

pub record IsKept (items : List Marked) (views : List QueueView) : Type 0 where
  pub logs : List PassLog
  pub past : List Marked
  pub taken : List Marked
  pub owners : List ℕ
  pub keeper : ℕ
  pub order : LevelOrder logs past (taken ++ items)
  pub seats : length owners ≡ length logs
  pub there : keeper < length views
  pub fits : (port : ℕ) (v : QueueView) → get_elem? views port ≡ some v → Fits keeper owners logs taken port v
  pub room : length taken + length items ≤ MAX_CALLS
  -- what is drained is drained when all have come back
  pub closed : (taken ≡ []) ⊎ ((p port : ℕ) → get_elem? owners p ≡ some port → port ≡ keeper)

abbrev pub with_pushed : PassLog → Marked → PassLog
with_pushed h x = record { pushed = h.pushed ++ x ∷ []; popped = h.popped }

abbrev pub with_popped : PassLog → Marked → PassLog
with_popped h x = record { pushed = h.pushed; popped = h.popped ++ x ∷ [] }

-- the first pass has the number 0 and is the keeper; a pass before any has come back
abbrev pub view_of : ℕ → ℕ → PassLog → QueueView
view_of made zero h = Keeper made (h ∷ []) []
view_of made (suc p) h = Owner (suc p) h

-- the view after a push, after a pop, and after a pop of the keeper
abbrev pub after_push : QueueView → Marked → QueueView
after_push (Owner p h) x = Owner p (with_pushed h x)
after_push (Keeper made [] out) x = Spent
after_push (Keeper made (h ∷ known) out) x = Keeper made (with_pushed h x ∷ known) out
after_push Spent x = Spent

abbrev pub after_pop : QueueView → Marked → QueueView
after_pop (Owner p h) x = Owner p (with_popped h x)
after_pop (Keeper made [] out) x = Spent
after_pop (Keeper made (h ∷ known) out) x = Keeper made (with_popped h x ∷ known) out
after_pop Spent x = Spent

abbrev pub Drained : QueueView → Marked → QueueView → Type 0
Drained (Owner p h) x w = w ≡ Spent
Drained (Keeper made known out) x w = (w ≡ Keeper made known (out ++ x ∷ [])) × (length (out ++ x ∷ []) ≤ MAX_CALLS)
Drained Spent x w = w ≡ Spent

-- the keeper gives a number out
abbrev pub rest_of : QueueView → QueueView
rest_of (Owner p h) = Spent
rest_of (Keeper made known out) = Keeper (made + 1) known out
rest_of Spent = Spent

abbrev pub next_of : QueueView → QueueView
next_of (Owner p h) = Spent
next_of (Keeper made known out) = Owner made no_log
next_of Spent = Spent

-- a pass comes back
abbrev pub with_log : ℕ → List PassLog → List Marked → QueueView → QueueView
with_log made known out (Owner p h) = Keeper made (known ++ h ∷ []) out
with_log made known out (Keeper m k o) = Spent
with_log made known out Spent = Spent

abbrev pub both_of : QueueView → QueueView → QueueView
both_of (Owner p h) w = Spent
both_of (Keeper made known out) w = with_log made known out w
both_of Spent w = Spent

-- what the rule tells the pass p, which made the calls of h, of the calls that the queue holds at one moment
abbrev pub Sees : ℕ → PassLog → List Marked → Type 0
Sees p h items = (logs : List PassLog) × (past : List Marked) × LevelOrder logs past items × (get_elem? logs p ≡ some h)

abbrev pub SeesBy : QueueView → List Marked → Type 0
SeesBy (Owner p h) items = Sees p h items
SeesBy (Keeper made [] out) items = Unit {0}
SeesBy (Keeper made (h ∷ known) out) items = Sees 0 h items
SeesBy Spent items = Unit {0}

-- and the keeper, when all have come back
abbrev pub SeesAll : QueueView → List Marked → Type 0
SeesAll (Owner p h) items = Unit {0}
SeesAll (Keeper made known out) items = (past : List Marked) × LevelOrder known past (out ++ items)
SeesAll Spent items = Unit {0}

-- what a pop tells: the call is popped, and at that moment the rule held of what was left
abbrev pub Took : QueueView → Marked → QueueView → Type 0
Took v x w = (w ≡ after_pop v x) × ((items : List Marked) × SeesBy w items)
