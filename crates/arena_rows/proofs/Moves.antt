-- Steps of a slot's topmost row.
use Rattle.std.proofs.Common.{◌≡◌, ◌≢◌, ℕ, zero, suc, ◌+◌, ◌-◌, ◌<◌, ◌≤◌, List, [], ◌∷◌, length, Option, Some, true, false, refl, sym, ap, ◌∙◌, arith, inl, inr, get_or, map}
use Rattle.std.specs.Prelude.{slice_set, filter}
use Rattle.std.specs.List.{enumerate_from}
use Rattle.std.proofs.lemmas.Bool.{cases_eq}
use Rattle.job_step.specs.declared.frames.Frame.{Frame}
use Rattle.ready_pool.specs.Ready.{Ready}
use Rattle.tenant_model.specs.declared.rows.Phase.TheVariants.{Live}
use Rattle.tenant_model.specs.declared.rows.Row.{Row}
use Rattle.tenant_model.specs.State.{State, row, with_at_number}
use Rattle.tenant_model.specs.Walks.{is_unstarted, height, top}
use Rattle.tenant_model.specs.Changes.{with_frame}
use Rattle.tenant_model.specs.Sound.{IsSteady, IsSettled}
use Rattle.tenant_model.proofs.Changed.{row-with_same, row-with_other, row-get_or, with_at_number-from}
use Rattle.tenant_model.proofs.Within.{either_way}
use Rattle.tenant_model.proofs.Picks.{top_is}
use Rattle.arena_rows.specs.declared.rows.OpenRow.{OpenRow}
use Rattle.arena_rows.specs.Held.{Held}
use Rattle.arena_rows.specs.Represents.{Places, at_place, stage_of, tagged_of, waiting, waiting_of, AreRows, Holds}
use Rattle.arena_rows.specs.HeldChanges.{framed}
use Rattle.arena_rows.proofs.Alike.{Alike, Alike-set, IsRow-alike, open_rows-alike, tag_of-alike, around_of-alike}
use Rattle.arena_rows.proofs.Started.{option-same, waits, map-same}
use Rattle.arena_rows.proofs.Framed.{AreNests-framed}
use Rattle.arena_rows.proofs.Kept.{AreContexts-alike, AreJobs-alike, IsSettled-alike}

-- The rows stay in the table where their stages stay.
AreRows-alike : (rows rows' : List Row) (places : Places) (table : List (Option OpenRow)) → Alike rows rows' →
    ((m : ℕ) → stage_of (row rows' m).frame (row rows' m).phase ≡ stage_of (row rows m).frame (row rows m).phase) → AreRows rows places table → AreRows rows' places table
AreRows-alike rows rows' places table alike stages are = record {
  each = λ m opened.
      let its = are.each m (sym (alike.opens m) ∙ opened) in
      record { within = its.within; entry = its.entry; there = its.there; is = IsRow-alike rows rows' alike places m its.entry (stages m) its.is };
  only = λ p e here. let its = are.only p e here in (alike.opens e.number ∙ its.0, its.1);
}

-- a row that does not wait changed, so those that wait are the same
pub waiting-same : (k i : ℕ) (r d : Row) (xs : List Row) → i < length xs → is_unstarted r.phase ≡ false → is_unstarted (get_or xs i d).phase ≡ false →
    filter waits (enumerate_from k (slice_set xs i r)) ≡ filter waits (enumerate_from k xs)
waiting-same k i r d [] within new old = absurd (omega arith)
waiting-same k zero r d (x ∷ xs) within new old = rw (new, old) refl
waiting-same k (suc i) r d (x ∷ xs) within new old = elim (either_way (is_unstarted x.phase)) [
  | inl is ↦ rw is (ap (λ ps. (k, x) ∷ ps) (waiting-same (k + 1) i r d xs (omega arith) new old))
  | inr not_so ↦ rw not_so (waiting-same (k + 1) i r d xs (omega arith) new old)
]

module _ (a : Held) (s : State) (is : Holds a s) (slot n : ℕ) (f : Frame) (within : slot < a.config.slots) (on_top : top s.rows slot ≡ Some n) (kept : IsSteady (with_frame s n f)) where
  abbrev r : Row
  r = record (row s.rows n) { frame = f }

  abbrev rows' : List Row
  rows' = with_at_number s.rows n r

  its_top : (1 ≤ n) × (n ≤ length s.rows) × ((row s.rows n).phase ≡ Live slot (height s.rows slot))
  its_top = top_is s.rows slot n on_top

  alike : Alike s.rows rows'
  alike = Alike-set s.rows n r its_top.0 its_top.1 refl refl refl refl refl refl

  here : row rows' n ≡ r
  here = row-with_same s.rows n r its_top.0 its_top.1

  others : (m : ℕ) → m ≢ n → row rows' m ≡ row s.rows m
  others m other = row-with_other s.rows n m r its_top.0 other

  phases : (m : ℕ) → (row rows' m).phase ≡ (row s.rows m).phase
  phases m = elim (cases_eq m n) [
    | inl same ↦ rw (same, here) refl
    | inr other ↦ rw (others m other) refl
  ]

  stages : (m : ℕ) → stage_of (row rows' m).frame (row rows' m).phase ≡ stage_of (row s.rows m).frame (row s.rows m).phase
  stages m = elim (cases_eq m n) [
    | inl same ↦ rw (same, here, its_top.2) refl
    | inr other ↦ rw (others m other) refl
  ]

  fewer : (m : ℕ) → is_unstarted (row rows' m).phase ≡ true → is_unstarted (row s.rows m).phase ≡ true
  fewer m w = sym (ap is_unstarted (phases m)) ∙ w

  started : is_unstarted (row s.rows n).phase ≡ false
  started = rw its_top.2 refl

  same_waiting : waiting rows' ≡ waiting s.rows
  same_waiting =
      let place : n - 1 + 1 ≡ n = omega (arith, its_top) in
      let at : is_unstarted (get_or s.rows (n - 1) r).phase ≡ false = ap (λ (x : Row). is_unstarted x.phase) (row-get_or s.rows (n - 1) r (omega (arith, its_top)) ∙ ap (row s.rows) place) ∙ started in
      ap waiting (with_at_number-from s.rows n r its_top.0) ∙ waiting-same 1 (n - 1) r r s.rows (omega (arith, its_top)) started at

  -- The frame of the topmost row, moved on.
  pub framed_holds : Holds (framed a slot f) (with_frame s n f)
  framed_holds = record {
    config = is.config;
    places = is.places;
    assigned = is.assigned;
    made = is.made ∙ sym alike.contexts.sources.long;
    made_jobs = is.made_jobs;
    table = AreRows-alike s.rows rows' is.places a.table alike stages is.table;
    free = record { long = is.free.long; count = open_rows-alike s.rows rows' alike ∙ is.free.count };
    nests = AreNests-framed s.rows rows' is.places a.config.slots a.nests is.steady.formed.stacked n slot f is.nests within on_top phases here others;
    tags = record {
      long = is.tags.long;
      each =
          λ p. is.tags.each p ∙ sym (option-same (tagged_of rows' is.places) (tagged_of s.rows is.places) (at_place a.table p)
          (λ x. rw (tag_of-alike s.rows rows' alike is.places x.number, around_of-alike s.rows rows' alike is.places x.number) refl));
    };
    waiting = is.waiting ∙ ap (λ ws. let p : Ready = record { isolation = a.config.isolation; limit = a.config.rows; slots = a.config.slots; rows = ws } in p)
        (map-same (waiting_of s.rows is.places) (waiting_of rows' is.places) (waiting s.rows) (λ p. rw (tag_of-alike s.rows rows' alike is.places p.0) refl) ∙
        ap (map (waiting_of rows' is.places)) (sym same_waiting));
    contexts = AreContexts-alike s (with_frame s n f) alike refl fewer (length a.jobs) a.table a.table a.contexts is.assigned is.contexts.in_table refl is.contexts;
    room = is.room;
    jobs = AreJobs-alike s (with_frame s n f) alike refl is.assigned a.jobs is.jobs;
    cells = is.cells;
    entries = is.entries;
    epoch = is.epoch;
    steady = kept;
  }

  pub framed_settled : IsSettled s → IsSettled (with_frame s n f)
  framed_settled settled = IsSettled-alike s (with_frame s n f) alike refl fewer settled
