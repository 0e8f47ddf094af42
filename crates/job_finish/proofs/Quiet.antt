-- Where no slot can move and none has a row, nothing is open, if a slot is for workers.
use Rattle.std.proofs.Common.{◌≡◌, ℕ, zero, suc, ◌+◌, ◌-◌, ◌<◌, ◌≤◌, nat_lt, List, [], length, get_or, Option, Some, None, true, false, refl, ap, ◌∙◌, arith, inl, inr}
use Rattle.std.specs.List.{list_any}
use Rattle.std.proofs.lemmas.Bool.{cases_lt}
use Rattle.std.proofs.lemmas.List.Folds.{list_any_at}
use Rattle.job_finish.specs.Quiet.{AllClosed, IsQuiet}
use Rattle.job_language.specs.declared.answers.Moved.{Moved}
use Rattle.tenant_model.specs.declared.rows.Phase.{Phase}
use Rattle.tenant_model.specs.declared.rows.Phase.TheVariants.{Unstarted, Live, Done, Dropped, Faulted}
use Rattle.tenant_model.specs.declared.rows.Row.{Row}
use Rattle.tenant_model.specs.Advance.{advance_top, begin, unless_full, would_be_recorded}
use Rattle.tenant_model.specs.Asks.{has_outcome}
use Rattle.tenant_model.specs.Changes.{is_full}
use Rattle.tenant_model.specs.State.{State, row}
use Rattle.tenant_model.specs.Walks.{has_unstarted, height, is_open, is_unstarted, pick, top}
use Rattle.tenant_model.proofs.Advancing.{no_pick}
use Rattle.tenant_model.proofs.Changed.{row-get_or, row-past}
use Rattle.tenant_model.proofs.LaterSteps.{ended_outcome}
use Rattle.tenant_model.proofs.Picks.{top_is}
use Rattle.tenant_model.proofs.Within.{either_way}
use Rattle.waiting_law.specs.Waiting.{CanNotMove, NoneLive, SomeMoves}

-- Where no slot can move, none with a row can.
pub none_moves : (s : State) → IsQuiet s → SomeMoves s → ⊥
none_moves s quiet some =
    let still = quiet some.slot some.low in
    let moves = some.moves in
    grind (arith, still, moves)

unless_idle : (s : State) (r : Moved × State) → would_be_recorded (unless_full s r).0 ≡ false → would_be_recorded r.0 ≡ false
unless_idle s r idle = elim (either_way (would_be_recorded r.0)) [
  | inl recorded ↦ elim (either_way (is_full s)) [
    | inl full ↦ absurd (let no : true ≡ false = rw (recorded, full) at idle in grind (arith, no))
    | inr room ↦ rw (recorded, room) at idle
  ]
  | inr unrecorded ↦ unrecorded
]

top_idle : (s : State) (slot : ℕ) → slot < s.config.slots → CanNotMove s slot → would_be_recorded (advance_top s slot (top s.rows slot)).0 ≡ false
top_idle s slot low idle =
    let yes : nat_lt slot s.config.slots ≡ true = grind (arith, low) in
    unless_idle s (advance_top s slot (top s.rows slot)) (rw yes at idle)

no_row : (n : ℕ) → is_open (row [] n).phase ≡ false
no_row zero = refl
no_row (suc n) = refl

-- no row is live, and none waits
closed_if : (p : Phase) → ((slot h : ℕ) → p ≡ Live slot h → ⊥) → is_unstarted p ≡ false → is_open p ≡ false
closed_if Unstarted off started = absurd (grind (arith, started))
closed_if (Live t h) off started = absurd (off t h refl)
closed_if (Done v) off started = refl
closed_if Dropped off started = refl
closed_if Faulted off started = refl

any_none : (rows : List Row) (i : ℕ) (d : Row) → list_any (λ (r : Row). is_unstarted r.phase) rows ≡ false → i < length rows → is_unstarted (get_or rows i d).phase ≡ false
any_none rows i d none within = elim (either_way (is_unstarted (get_or rows i d).phase)) [
  | inl waits ↦ let yes = list_any_at (λ (r : Row). is_unstarted r.phase) rows i d within waits in absurd (grind (arith, yes, none))
  | inr started ↦ started
]

begins_none : (s : State) (slot : ℕ) (o : Option ℕ) → s.config.reserved ≤ slot → would_be_recorded (begin s slot o).0 ≡ false → o ≡ None
begins_none s slot None workers idle = refl
begins_none s slot (Some n) workers idle =
    let no : nat_lt slot s.config.reserved ≡ false = grind (arith, workers) in
    absurd (let yes : true ≡ false = rw no at idle in grind (arith, yes))

-- The last slot, if it is one for workers, takes what waits.
none_waits : (s : State) → s.config.reserved < s.config.slots → NoneLive s → IsQuiet s → (o : Option ℕ) → top s.rows (s.config.slots - 1) ≡ o → has_unstarted s ≡ false
none_waits s workers none quiet (Some t) is =
    let slot = s.config.slots - 1 in
    let its = top_is s.rows slot t is in
    absurd (none t slot (height s.rows slot) its.2)
none_waits s workers none quiet None is =
    let slot = s.config.slots - 1 in
    let low : slot < s.config.slots = omega (arith, workers) in
    let at : would_be_recorded (begin s slot (pick s slot)).0 ≡ false = rw is at (top_idle s slot low (quiet slot low)) in
    no_pick s slot is (begins_none s slot (pick s slot) (omega (arith, workers)) at)

closed_there : (s : State) → NoneLive s → has_unstarted s ≡ false → (n : ℕ) → 1 ≤ n → n ≤ length s.rows → is_open (row s.rows n).phase ≡ false
closed_there s none started n from to =
    let place : n - 1 + 1 ≡ n = omega (arith, from) in
    let here : get_or s.rows (n - 1) (row [] 0) ≡ row s.rows n = row-get_or s.rows (n - 1) (row [] 0) (omega (arith, from, to)) ∙ ap (row s.rows) place in
    let not_waiting : is_unstarted (row s.rows n).phase ≡ false = rw here at (any_none s.rows (n - 1) (row [] 0) started (omega (arith, from, to))) in
    closed_if (row s.rows n).phase (none n) not_waiting

-- a row past the last is closed
closed_past : (rows : List Row) (n : ℕ) → length rows < n → is_open (row rows n).phase ≡ false
closed_past rows n past = rw (row-past rows n past) (no_row n)

pub all_closed : (s : State) → s.config.reserved < s.config.slots → NoneLive s → IsQuiet s → AllClosed s
all_closed s workers none quiet zero = refl
all_closed s workers none quiet (suc n) = elim (cases_lt (length s.rows) (suc n)) [
  | inl past ↦ closed_past s.rows (suc n) past
  | inr within ↦ closed_there s none (none_waits s workers none quiet (top s.rows (s.config.slots - 1)) refl) (suc n) (omega arith) within
]

pub all_have_outcomes : (s : State) → AllClosed s → (j : ℕ) → has_outcome s.rows j ≡ true
all_have_outcomes s closed j = ended_outcome s j (λ n of. closed n)
