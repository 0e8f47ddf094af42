-- No step undoes anything.
use Rattle.std.proofs.Common.{◌≡◌, ℕ, zero, suc, ◌+◌, ◌-◌, ◌==◌, ◌≤◌, List, [], ◌∷◌, ◌++◌, length, Some, None, Bool, true, false, ◌&&◌, refl, sym, ap, ◌∙◌, arith, inl, inr, map, ℤ, pos}
use Rattle.std.specs.Prelude.{slice_set, slice_index_or}
use Rattle.std.specs.List.{list_any}
use Rattle.std.proofs.lemmas.Bool.{cases_eq, cases_lt}
use Rattle.job_language.specs.declared.errors.JobFault.{JobFault}
use Rattle.job_language.specs.declared.jobs.Job.{Job}
use Rattle.job_language.specs.declared.steps.Step.{Step}
use Rattle.job_language.specs.declared.steps.Step.TheVariants.{Ask, Arrive, Advance}
use Rattle.job_step.specs.declared.frames.Frame.{Frame}
use Rattle.job_step.specs.Frame.{new_frame, register, instr_at}
use Rattle.tenant_model.specs.declared.rows.Kind.{Kind}
use Rattle.tenant_model.specs.declared.rows.Kind.TheVariants.{Root, Posted, Spawned, Region}
use Rattle.tenant_model.specs.declared.rows.Phase.{Phase}
use Rattle.tenant_model.specs.declared.rows.Phase.TheVariants.{Unstarted, Live, Done, Dropped, Faulted}
use Rattle.tenant_model.specs.declared.rows.Row.{Row}
use Rattle.tenant_model.specs.State.{State, row, job, at_number, with_at_number}
use Rattle.thread_cells.specs.Cells.{no_cells}
use Rattle.tenant_model.specs.Walks.{maker_of, is_open, is_context_cancelled, mark, height, settled_row, settle}
use Rattle.tenant_model.specs.Changes.{on_row, new_row, add_row, entry, with_frame, task_height, faulted_row, faulted_phase, first_fault}
use Rattle.tenant_model.specs.Shared.{called_frame, handed_frame, hand_back, next_place}
use Rattle.tenant_model.specs.Advance.{with_fuel}
use Rattle.tenant_model.specs.Asks.{has_outcome, add_job, new_job, retired_work}
use Rattle.tenant_model.specs.Solo.{step}
use Rattle.tenant_model.specs.WellFormed.{IsWellFormed}
use Rattle.tenant_model.specs.Later.{IsRowLater, HasEnded, IsLater}
use Rattle.tenant_model.proofs.Within.{either_way}
use Rattle.tenant_model.proofs.Changed.{row-map, row-past, row-with_same, row-with_other, length-with}
use Rattle.tenant_model.proofs.Parts.{SameSources-settle, row-settle}
use Rattle.tenant_model.proofs.Linked.{SameSources-map}
use Rattle.tenant_model.proofs.Picks.{pick_is}
use Rattle.tenant_model.proofs.UnstuckSteps.{known_there}
use Rattle.tenant_model.proofs.Invariance.{IsAt, KeepsAdvances, KeepsAsks, advance_keeps, arrive_keeps, ask_keeps, faulted_at}
use Rattle.tenant_model.proofs.Tending.{made_there}
use Rattle.tenant_model.proofs.Tended.{by_place, unstarted_open, Nothing}
use Rattle.tenant_model.proofs.Together.{row-cons}
use Rattle.tenant_model.proofs.Later.{row_later-same, later-same, later-then, later-rows, later-set, later-push, later-set_job, later-push_job, later-retired, later-beside}

-- a test that none of the rows passes
none_passes : (p : Row → Bool) (rows : List Row) → ((n : ℕ) → 1 ≤ n → n ≤ length rows → p (row rows n) ≡ false) → list_any p rows ≡ false
none_passes p [] each = refl
none_passes p (x ∷ xs) each =
    let first : p x ≡ false = each 1 (omega arith) (omega arith) in
    let rest = none_passes p xs (λ n from to. ap p (sym (row-cons x xs n from)) ∙ each (suc n) (omega arith) (omega (arith, to))) in
    rw first rest

passes_none : (p : Row → Bool) (rows : List Row) → list_any p rows ≡ false → (n : ℕ) → 1 ≤ n → n ≤ length rows → p (row rows n) ≡ false
passes_none p [] none n from to = absurd (omega (arith, from, to))
passes_none p (x ∷ xs) none zero from to = absurd (omega (arith, from))
passes_none p (x ∷ xs) none (suc n) from to = elim (either_way (p x)) [
  | inl passes ↦ absurd (let no : true ≡ false = rw passes at none in grind (arith, no))
  | inr fails ↦
      let rest : list_any p xs ≡ false = rw fails at none in
      elim (cases_eq n 0) [
        | inl first ↦ rw first fails
        | inr later ↦ ap p (row-cons x xs n (omega (arith, later))) ∙ passes_none p xs rest n (omega (arith, later)) (omega (arith, to))
      ]
]

-- A job whose rows are all closed has an outcome, and no other has.
pub ended_outcome : (s : State) (j : ℕ) → HasEnded s j → has_outcome s.rows j ≡ true
ended_outcome s j ended =
    let none : list_any (λ (r : Row). (r.job == j) && is_open r.phase) s.rows ≡ false = none_passes _ s.rows (λ n from to. elim (either_way ((row s.rows n).job == j)) [
      | inl of ↦ let own : (row s.rows n).job ≡ j = grind (arith, of) in let closed = ended n own in grind (arith, of, closed)
      | inr other ↦ grind (arith, other)
    ]) in
    rw none refl

pub outcome_ended : (s : State) (j : ℕ) → has_outcome s.rows j ≡ true → HasEnded s j
outcome_ended s j over n of = elim (cases_lt 0 n) [
  | inr nowhere ↦ let none : n ≡ 0 = omega (arith, nowhere) in rw none refl
  | inl from ↦ elim (cases_lt (length s.rows) n) [
    | inl past ↦ rw (row-past s.rows n past) (closed_nowhere n)
    | inr within ↦
        let none : list_any (λ (r : Row). (r.job == j) && is_open r.phase) s.rows ≡ false = grind (arith, over) in
        let its = passes_none (λ (r : Row). (r.job == j) && is_open r.phase) s.rows none n from within in
        let own : ((row s.rows n).job == j) ≡ true = grind (arith, of) in
        grind (arith, own, its)
  ]
]
  where
    closed_nowhere : (n : ℕ) → is_open (row [] n).phase ≡ false
    closed_nowhere zero = refl
    closed_nowhere (suc n) = refl

lives_open : (p : Phase) (slot h : ℕ) → p ≡ Live slot h → is_open p ≡ true
lives_open p slot h live = rw live refl

open_not_ended : (s : State) (n : ℕ) → is_open (row s.rows n).phase ≡ true → HasEnded s (row s.rows n).job → ⊥
open_not_ended s n opened ended = let closed = ended n refl in grind (arith, closed, opened)

same_phase : (r : Row) (p : Phase) → p ≡ r.phase → record r { phase = p } ≡ r
same_phase r p same = rw same refl

faulted_later : (slot from : ℕ) (r : Row) (p : Phase) → r.phase ≡ p → IsRowLater r (faulted_row slot from r)
faulted_later slot from r Unstarted is = record { kind = refl; job = refl; made_on = refl; closed = λ closed. absurd (let no : true ≡ false = rw is at closed in grind (arith, no)) }
faulted_later slot from r (Live t h) is = record { kind = refl; job = refl; made_on = refl; closed = λ closed. absurd (let no : true ≡ false = rw is at closed in grind (arith, no)) }
faulted_later slot from r (Done v) is = record { kind = refl; job = refl; made_on = refl; closed = λ closed. same_phase r (faulted_phase slot from r.phase) (rw is refl) }
faulted_later slot from r Dropped is = record { kind = refl; job = refl; made_on = refl; closed = λ closed. same_phase r (faulted_phase slot from r.phase) (rw is refl) }
faulted_later slot from r Faulted is = record { kind = refl; job = refl; made_on = refl; closed = λ closed. same_phase r (faulted_phase slot from r.phase) (rw is refl) }

later-faulted : (s : State) (slot from : ℕ) → IsLater s (record s { rows = map (faulted_row slot from) s.rows })
later-faulted s slot from =
    let same = SameSources-map (faulted_row slot from) s.rows (λ r. refl) (λ r. refl) in
    later-rows s (map (faulted_row slot from) s.rows) same.long (by_place s.rows (map (faulted_row slot from) s.rows) same.long IsRowLater row_later-same
    (λ n low high. rw (row-map (faulted_row slot from) s.rows n low high) (faulted_later slot from (row s.rows n) (row s.rows n).phase refl)))

settled_later : (r : Row) (b : Bool) (p : Phase) → r.phase ≡ p → IsRowLater r (settled_row r b)
settled_later r b Unstarted is = record { kind = refl; job = refl; made_on = refl; closed = λ closed. absurd (let no : true ≡ false = rw is at closed in grind (arith, no)) }
settled_later r b (Live t h) is = record { kind = refl; job = refl; made_on = refl; closed = λ closed. absurd (let no : true ≡ false = rw is at closed in grind (arith, no)) }
settled_later r b (Done v) is = record { kind = refl; job = refl; made_on = refl; closed = λ closed. same_phase r (settled_row r b).phase (rw is refl) }
settled_later r b Dropped is = record { kind = refl; job = refl; made_on = refl; closed = λ closed. same_phase r (settled_row r b).phase (rw is refl) }
settled_later r b Faulted is = record { kind = refl; job = refl; made_on = refl; closed = λ closed. same_phase r (settled_row r b).phase (rw is refl) }

later-entry : (s : State) → IsLater s (entry s)
later-entry s =
    let t = record s { entries = s.entries + 1 } in
    let same = SameSources-settle t in
    later-then s t (entry s) (later-beside s (s.entries + 1) s.epoch s.cells)
    (later-rows t (settle t).rows same.long (by_place t.rows (settle t).rows same.long IsRowLater row_later-same
    (λ n low high. rw (row-settle t n low high) (settled_later (row t.rows n) (is_context_cancelled t n) (row t.rows n).phase refl))))

module _ (s : State) (slot n : ℕ) (at : IsAt s slot n) where
  opened : is_open (row s.rows n).phase ≡ true
  opened = lives_open (row s.rows n).phase slot (height s.rows slot) at.live

  pub later-top : (r : Row) → r.kind ≡ (row s.rows n).kind → r.job ≡ (row s.rows n).job → r.made_on ≡ (row s.rows n).made_on → IsLater s (record s { rows = with_at_number s.rows n r })
  later-top r kind job_same made_on = later-set s n r at.from at.to opened kind job_same made_on

  later-framed : (f : Frame) → IsLater s (with_frame s n f)
  later-framed f = later-top (record (row s.rows n) { frame = f }) refl refl refl

  later-made : (f : Frame) (r : Row) → r.job ≡ (row s.rows n).job → IsLater s (add_row (with_frame s n f) r)
  later-made f r of = later-then s (with_frame s n f) (add_row (with_frame s n f) r) (later-framed f)
      (later-push (with_frame s n f) r
      (λ j known ended same. open_not_ended (with_frame s n f) n (ap (λ (q : Row). is_open q.phase) (framed f) ∙ opened)
      (λ m own. ended m (own ∙ ap (λ (q : Row). q.job) (framed f) ∙ sym of ∙ same))))
    where
      framed : (f : Frame) → row (with_frame s n f).rows n ≡ record (row s.rows n) { frame = f }
      framed f = row-with_same s.rows n (record (row s.rows n) { frame = f }) at.from at.to

  later-fuel : (f : ℕ) → IsLater s (with_fuel s n f)
  later-fuel f =
      let there = at.well.linked.jobs n at.from at.to in
      later-set_job s (row s.rows n).job (record (job s.jobs (row s.rows n).job) { fuel = f }) there.0 there.1
      (record { program = refl; root = refl; cancelled = λ is. is; fault = λ e is. is; retired = λ is. is }) (λ ended. (refl, refl))

  later-fault : (e : JobFault) → IsLater s (faulted_at s slot n e)
  later-fault e =
      let j = (row s.rows n).job in
      let there = at.well.linked.jobs n at.from at.to in
      let w = record (job s.jobs j) { fault = first_fault (job s.jobs j).fault e } in
      let t = record s { jobs = with_at_number s.jobs j w } in
      later-then s t (faulted_at s slot n e)
      (later-set_job s j w there.0 there.1 (record { program = refl; root = refl; cancelled = λ is. is; fault = λ f is. ap (λ o. first_fault o e) is; retired = λ is. is })
      (λ ended. absurd (open_not_ended s n opened ended)))
      (later-faulted t slot (task_height s.rows slot))

  -- the maker of a region that ended is on a slot
  later-done : (f : Frame) (v : ℤ) (k : Kind) → (row s.rows n).kind ≡ k → IsLater s (hand_back (on_row s n (λ r. record r { frame = f; phase = Done v })) k v)
  later-done f v Root kind = later-top (record (row s.rows n) { frame = f; phase = Done v }) refl refl refl
  later-done f v Posted kind = later-top (record (row s.rows n) { frame = f; phase = Done v }) refl refl refl
  later-done f v (Spawned m g) kind = later-top (record (row s.rows n) { frame = f; phase = Done v }) refl refl refl
  later-done f v (Region m) kind =
      let r = record (row s.rows n) { frame = f; phase = Done v } in
      let t = on_row s n (λ r. record r { frame = f; phase = Done v }) in
      let there = made_there s at.well.linked n m (ap maker_of kind) in
      let below : (row s.rows m).phase ≡ Live slot (height s.rows slot - 1) = at.well.on_makers.below n m slot (height s.rows slot) kind at.live in
      let its : is_open (row t.rows m).phase ≡ true = rw (row-with_other s.rows n m r at.from (omega (arith, there))) (rw below refl) in
      let q = record (row t.rows m) { frame = handed_frame (instr_at (job t.jobs (row t.rows m).job).program (row t.rows m).frame) v (row t.rows m).frame } in
      later-then s t (hand_back t (Region m) v) (later-top r refl refl refl) (later-set t m q there.2 (omega (arith, there, length-with s.rows n r)) its refl refl refl)

later-added : (s : State) (j : Job) (phase : Phase) → IsLater s (add_job s j phase)
later-added s j phase =
    let w = new_job s j in
    let t = record s { jobs = s.jobs ++ w ∷ [] } in
    let r = new_row Root (length s.jobs + 1) None (new_frame 0 (slice_index_or j.args 0 (pos 0)) (slice_index_or j.args 1 (pos 0))) phase in
    later-then s (record s { rows = s.rows ++ r ∷ [] }) (add_job s j phase)
    (later-push s r (λ k known ended same. absurd (omega (arith, same, known))))
    (later-push_job (record s { rows = s.rows ++ r ∷ [] }) w)

module _ (s0 : State) where
  abbrev Follows : State → Type 0
  Follows t = IsLater s0 t

  later_advances : (slot : ℕ) → KeepsAdvances Nothing Follows Follows slot
  later_advances slot = record {
    fueled = λ s n f at p. tt;
    fuel = λ s n f at p is. later-then s0 s _ is (later-fuel s slot n at f);
    fault = λ s n e at p is. later-then s0 s _ is (later-fault s slot n at e);
    frame = λ s n f at p same is. later-then s0 s _ is (later-framed s slot n at f);
    cells = λ s t table is. later-then s0 s _ is (later-beside s s.entries s.epoch t);
    spawn = λ s n f g q a b at p same here room is. later-then s0 s _ is
        (later-made s slot n at (next_place f) (new_row (Spawned n g) (row s.rows n).job (Some slot) (called_frame f q a b) Unstarted) refl);
    post = λ s n f q a b at p same room is. later-then s0 s _ is (later-made s slot n at (next_place f) (new_row Posted (row s.rows n).job None (called_frame f q a b) Unstarted) refl);
    isolate = λ s n f d q a b at p same here room low is. later-then s0 s _ is
        (later-made s slot n at f (new_row (Region n) (row s.rows n).job (Some slot) (called_frame f q a b) (Live slot (height s.rows slot + 1))) refl);
    wait = λ s n f g at p same none is. later-then s0 s _ is
        (later-top s slot n at (record (row s.rows n) { frame = f; marks = slice_set (row s.rows n).marks g (record { rows = length s.rows; cancelled = false }) }) refl refl refl);
    cancel = λ s n f g at p same is. later-then s0 s _ is
        (later-top s slot n at (record (row s.rows n) { frame = f; marks = slice_set (row s.rows n).marks g (record (mark s.rows n g) { cancelled = true }) }) refl refl refl);
    done = λ s n f a at p same unused is. later-then s0 s _ is (later-done s slot n at f (register f a) (row s.rows n).kind refl);
    nest = λ s m well low p picked high is.
        let its = pick_is s.config.isolation s.rows slot m picked in
        later-then s0 s _ is (later-set s m (record (row s.rows m) { phase = Live slot (height s.rows slot + 1) }) its.0 its.1 (unstarted_open (row s.rows m).phase its.2) refl refl refl);
    enter = λ s is. later-then s0 s _ is (later-entry s);
  }

  later_asks : KeepsAsks Nothing Follows Follows
  later_asks = record {
    none = λ s is. is;
    add = λ s j well p room is. later-then s0 s _ is (later-added s j Unstarted);
    place = λ s j slot well p room low empty is. later-then s0 s _ is (later-added s j (Live slot 1));
    cancel = λ s j w well p known first is.
        let there = known_there s.jobs j (at_number s.jobs j) w refl known in
        later-then s0 s _ is (later-set_job s j (record (job s.jobs j) { cancelled = true }) there.0 there.1
        (record { program = refl; root = refl; cancelled = λ is. refl; fault = λ e is. is; retired = λ is. is })
        (λ ended. absurd (let over = ended_outcome s j ended in grind (arith, over, first))));
    release = λ s j w well p known over is.
        let there = known_there s.jobs j (at_number s.jobs j) w refl known in
        later-then s0 s _ is (later-set_job s j (retired_work (job s.jobs j)) there.0 there.1 (record { program = refl; root = refl; cancelled = λ is. is; fault = λ e is. is; retired = λ is. refl })
        (λ ended. (refl, refl)));
    retire = λ s well p closed is. later-then s0 s _ is
        (later-then s (record s { jobs = map retired_work s.jobs }) _ (later-retired s) (later-beside (record s { jobs = map retired_work s.jobs }) s.entries (s.epoch + 1) no_cells));
    enter = λ s is. later-then s0 s _ is (later-entry s);
  }

-- What comes later undoes nothing.
pub step_later : (s : State) (x : Step) → IsWellFormed s → IsLater s (step s x).1
step_later s (Ask r) well = ask_keeps Nothing (Follows s) (Follows s) (later_asks s) s well tt (later-same s) r
step_later s (Arrive slot) well = arrive_keeps Nothing (Follows s) (Follows s) slot (later_advances s slot) s well tt (later-same s)
step_later s (Advance slot) well = advance_keeps Nothing (Follows s) (Follows s) slot (later_advances s slot) s well tt (later-same s)
