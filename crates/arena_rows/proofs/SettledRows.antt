-- Settling row by row.
use Rattle.std.proofs.Common.{◌≡◌, ℕ, ◌≤◌, ◌&&◌, length, Some, Bool, true, false, refl, sym, ap, ◌∙◌, arith, inl, inr, subst}
use Rattle.cancel_context.specs.Forest.{IsForest, is_cancelled}
use Rattle.region_tag.specs.declared.row_id.RowId.{RowId}
use Rattle.job_step.specs.declared.frames.Frame.{Frame}
use Rattle.tenant_model.specs.declared.rows.Row.{Row}
use Rattle.tenant_model.specs.State.{State, row}
use Rattle.tenant_model.specs.Walks.{is_unstarted, is_open, is_context_cancelled, settle, settled_row}
use Rattle.tenant_model.proofs.AttendedSteps.{open_there}
use Rattle.tenant_model.proofs.Contexts.{SameContexts, is_context_cancelled-same}
use Rattle.tenant_model.proofs.Tended.{unstarted_open}
use Rattle.tenant_model.proofs.Within.{either_way}
use Rattle.arena_rows.specs.declared.rows.OpenRow.{OpenRow}
use Rattle.arena_rows.specs.declared.rows.Stage.{Stage}
use Rattle.arena_rows.specs.declared.rows.Stage.TheVariants as stage
use Rattle.arena_rows.specs.Held.{Held}
use Rattle.arena_rows.specs.OpenRows.{is_waiting, AreFine}
use Rattle.arena_rows.specs.Represents.{at_place, id_of, stage_of, Holds, HoldsSomehow}
use Rattle.arena_rows.specs.Endings.{rows_of, IsCancelled, IsWaiting}
use Rattle.arena_rows.proofs.Contexts.{context_is, live_open}
use Rattle.arena_rows.proofs.Dropping.{Drops, Drops-none, Drops-more, Drops-all, dropped}
use Rattle.arena_rows.proofs.Grouped.{IsEntry, is_entry}
use Rattle.arena_rows.proofs.Starts.{unstarted_is}

waiting_frame : (s : Stage) → is_waiting s ≡ true → (f : Frame) × (s ≡ stage.Waiting f)
waiting_frame (stage.Waiting f) waits = (f, refl)
waiting_frame (stage.Live slot h) waits = cc

-- an entry at a place
module _ (a : Held) (t : State) (is : Holds a t) (p : ℕ) (e : OpenRow) (there : at_place a.table p ≡ Some e) where
  opened : is_open (row t.rows e.number).phase ≡ true
  opened = (is.table.only p e there).0

  place_is : is.places e.number ≡ p
  place_is = (is.table.only p e there).1

  at_its : at_place a.table (is.places e.number) ≡ Some e
  at_its = ap (at_place a.table) place_is ∙ there

  entry : IsEntry a t is e.number e
  entry = is_entry a t is e.number e opened at_its

  context_told : e.context ≡ is.assigned.of_row e.number
  context_told = (is.contexts.in_table p e there).0

  pub cancelled_told : IsForest a.contexts → is_cancelled a.contexts e.context ≡ is_context_cancelled t e.number
  cancelled_told forest =
      let place = open_there t.rows e.number opened in
      rw context_told (context_is t (length a.jobs) a.table a.contexts is.assigned is.steady is.jobs.later is.contexts forest e.number place.0 place.1 opened)

  pub waits_by_stage : (f : Frame) → e.stage ≡ stage.Waiting f → is_unstarted (row t.rows e.number).phase ≡ true
  waits_by_stage f waits = elim (either_way (is_unstarted (row t.rows e.number).phase)) [
    | inl is_one ↦ is_one
    | inr started ↦
        let live = live_open (row t.rows e.number).phase opened started in
        let both : stage.Live live.0 live.1 ≡ stage.Waiting f = ap (stage_of (row t.rows e.number).frame) (sym live.2) ∙ sym entry.its.stage ∙ waits in
        absurd (grind (arith, ap is_waiting both))
  ]

  pub its_place : is.places e.number ≡ p
  its_place = place_is

-- rows that were settled are of the same makers, and have the same marks
dropped_part : {A : Type 0} (s t : State) → Drops s t → (f : Row → A) → ((r : Row) (b : Bool) → f (settled_row r b) ≡ f r) → (n : ℕ) → f (row t.rows n) ≡ f (row s.rows n)
dropped_part s t drops f same n = elim (drops.each n) [
  | inl stays ↦ ap f stays
  | inr went ↦ ap f went ∙ same (row s.rows n) (is_context_cancelled s n)
]

pub Drops-contexts : (s t : State) → Drops s t → SameContexts s.rows t.rows
Drops-contexts s t drops = record {
  sources = record { long = drops.long; kinds = dropped_part s t drops (λ (r : Row). r.kind) (λ r b. refl); jobs = dropped_part s t drops (λ (r : Row). r.job) (λ r b. refl) };
  marks = dropped_part s t drops (λ (r : Row). r.marks) (λ r b. refl);
}

pub Drops-cancelled : (s t : State) → Drops s t → (n : ℕ) → is_context_cancelled t n ≡ is_context_cancelled s n
Drops-cancelled s t drops n = is_context_cancelled-same s t (Drops-contexts s t drops) (ap (λ (u : State). u.jobs) drops.rest) n

settled_waits : (r : Row) (b : Bool) → is_unstarted (settled_row r b).phase ≡ true → settled_row r b ≡ r
settled_waits r b waits = elim (either_way (is_unstarted r.phase && b)) [
  | inl both ↦ absurd (let no : is_unstarted (settled_row r b).phase ≡ false = rw both refl in grind (arith, no, waits))
  | inr fine ↦ rw fine refl
]

-- A row that waits is as it was.
pub Drops-waits : (s t : State) → Drops s t → (n : ℕ) → is_unstarted (row t.rows n).phase ≡ true → row t.rows n ≡ row s.rows n
Drops-waits s t drops n waits = elim (drops.each n) [
  | inl stays ↦ stays
  | inr went ↦ went ∙ settled_waits (row s.rows n) (is_context_cancelled s n) (ap (λ (r : Row). is_unstarted r.phase) (sym went) ∙ waits)
]

-- what is held once some of the rows are settled
pub record SettledSome (s : State) (a : Held) : Type 0 where
  pub t : State
  pub drops : Drops s t
  pub holds : Holds a t

pub settled_first : (s : State) (a : Held) → Holds a s → SettledSome s a
settled_first s a is = record { t = s; drops = Drops-none s; holds = is }

-- A row that waits, and whose context is cancelled,
module _ (a : Held) (id : RowId) (sound : IsForest a.contexts) (cancelled : IsCancelled a id) where
  abbrev e : OpenRow
  e = cancelled.doomed.entry

  waits_in : (t : State) → Holds a t → is_unstarted (row t.rows e.number).phase ≡ true
  waits_in t is = let frame = waiting_frame e.stage cancelled.doomed.waits in waits_by_stage a t is id.place e cancelled.doomed.there frame.0 frame.1

  its_id : (t : State) (is : Holds a t) → id ≡ id_of is.places e.number
  its_id t is =
      let at : ℕ → ℕ → RowId = λ n p. record { number = n; place = p } in
      ap (λ n. at n id.place) (sym cancelled.number) ∙ ap (at e.number) (sym (its_place a t is id.place e cancelled.doomed.there))

  -- waits in each state that is held,
  pub cancelled_waits : HoldsSomehow a → IsWaiting a id
  cancelled_waits h = (h.0, e.number, h.1, waits_in h.0 h.1, its_id h.0 h.1)

  -- and can be dropped.
  module _ (b : Held) (drop : (t : State) (n : ℕ) (is : Holds a t) → is_unstarted (row t.rows n).phase ≡ true → id ≡ id_of is.places n → Holds b (dropped t n)) where
    pub still_held : HoldsSomehow a → HoldsSomehow b
    still_held h = (dropped h.0 e.number, drop h.0 e.number h.1 (waits_in h.0 h.1) (its_id h.0 h.1))

    pub settled_more : (s : State) → SettledSome s a → SettledSome s b
    settled_more s so_far =
        let t = so_far.t in
        let waits = waits_in t so_far.holds in
        let place : (1 ≤ e.number) × (e.number ≤ length t.rows) = open_there t.rows e.number (unstarted_open (row t.rows e.number).phase waits) in
        let told : is_context_cancelled t e.number ≡ true = sym (cancelled_told a t so_far.holds id.place e cancelled.doomed.there sound) ∙ cancelled.doomed.cancelled in
        record {
          t = dropped t e.number;
          drops = Drops-more s t e.number place.0 (omega (arith, place, so_far.drops.long)) waits (Drops-waits s t so_far.drops e.number waits) (sym (Drops-cancelled s t so_far.drops e.number) ∙ told)
              so_far.drops;
          holds = drop t e.number so_far.holds waits (its_id t so_far.holds);
        }

-- Where no row waits any more whose context is cancelled, all are settled.
pub settled_all : (s : State) (a : Held) → IsForest a.contexts → AreFine (rows_of a) → SettledSome s a → Holds a (settle s)
settled_all s a sound fine so_far =
    let t = so_far.t in
    let is = so_far.holds in
    let same : t ≡ settle s = Drops-all s t so_far.drops (λ n waits.
    let stands = is.table.each n (unstarted_open (row t.rows n).phase waits) in
    let e = stands.entry in
    let waiting : is_waiting e.stage ≡ true = ap is_waiting (stands.is.stage ∙ ap (stage_of (row t.rows n).frame) (unstarted_is (row t.rows n).phase waits)) in
    let told : is_context_cancelled t e.number ≡ false = sym (cancelled_told a t is (is.places n) e stands.there sound) ∙ fine (is.places n) e stands.there waiting in
    sym (Drops-cancelled s t so_far.drops n) ∙ ap (is_context_cancelled t) (sym stands.is.number) ∙ told) in
    subst (Holds a) same is
