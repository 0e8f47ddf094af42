-- At every step, what made an open row stays open, unless its job has a fault.
use Rattle.std.proofs.Common.{◌≡◌, ℕ, zero, suc, ◌+◌, ◌<◌, ◌≤◌, List, [], ◌∷◌, ◌++◌, length, Option, Some, None, IsSome, Bool, true, false, refl, sym, ap, ◌∙◌, arith, inl, inr, map, pos}
use Rattle.std.specs.Prelude.{slice_index_or, slice_get, slice_set, unwrap_or, is_some}
use Rattle.std.specs.Option.{option_map}
use Rattle.std.proofs.lemmas.Bool.{cases_eq, cases_lt}
use Rattle.std.proofs.lemmas.Option.{slice_get-map, slice_get_past}
use Rattle.job_language.specs.declared.errors.JobFault.{JobFault}
use Rattle.job_language.specs.declared.instructions.Instr.TheVariants.{Spawn}
use Rattle.job_language.specs.declared.instructions.TheConstants.{GROUPS}
use Rattle.job_language.specs.declared.jobs.Job.{Job}
use Rattle.job_language.specs.declared.requests.Request.{Request}
use Rattle.job_language.specs.declared.tenants.Tenant.{Tenant}
use Rattle.job_step.specs.declared.frames.Frame.{Frame}
use Rattle.job_step.specs.Frame.{new_frame, register}
use Rattle.tenant_model.specs.declared.rows.Kind.{Kind}
use Rattle.tenant_model.specs.declared.rows.Kind.TheVariants.{Root, Posted, Spawned, Region}
use Rattle.tenant_model.specs.declared.rows.Phase.{Phase}
use Rattle.tenant_model.specs.declared.rows.Phase.TheVariants.{Unstarted, Live, Done, Dropped, Faulted}
use Rattle.tenant_model.specs.declared.rows.Row.{Row}
use Rattle.tenant_model.specs.declared.works.Work.{Work}
use Rattle.tenant_model.specs.State.{State, empty, row, job, at_number, with_at_number}
use Rattle.thread_cells.specs.Cells.{no_cells}
use Rattle.tenant_model.specs.Walks.{maker_of, is_region, is_unstarted, is_open, is_context_cancelled, mark, height, pick, settled_row, settle}
use Rattle.tenant_model.specs.Changes.{new_row, entry, with_frame, nest, task_height, faulted_row, first_fault}
use Rattle.tenant_model.specs.Shared.{called_frame, next_place}
use Rattle.tenant_model.specs.Advance.{advance, arrive}
use Rattle.tenant_model.specs.Asks.{add_job, new_job, retired_work, ask}
use Rattle.tenant_model.specs.Naming.{IsUnstuck}
use Rattle.tenant_model.specs.WellFormed.{IsWellFormed}
use Rattle.tenant_model.specs.Sound.{MakersStay}
use Rattle.tenant_model.proofs.Changed.{at_number-with_same, at_number-with_other, at_number-push_old, row-past}
use Rattle.tenant_model.proofs.Keeping.{on_row_kept}
use Rattle.tenant_model.proofs.Parts.{row-settle}
use Rattle.tenant_model.proofs.Picks.{pick_is}
use Rattle.tenant_model.proofs.Running.{names_groups}
use Rattle.tenant_model.proofs.Invariance.{IsAt, KeepsAdvances, KeepsAsks, advance_keeps, arrive_keeps, ask_keeps, program_of, faulted_at}
use Rattle.tenant_model.proofs.Unstuck.{on_job_unstuck}
use Rattle.tenant_model.proofs.UnstuckSteps.{known_there}
use Rattle.tenant_model.proofs.Tended.{EndsSome-settle, EndsSome-faulted, entry_tended, tended_advances, tended_asks, no_row_made}
use Rattle.tenant_model.proofs.Attended.{KeepFaults, Both, MakersStay-jobs, MakersStay-beside, MakersStay-ends, MakersStay-set, MakersStay-push, kept_at, framed_kept, made_kept, over_kept}
use Rattle.tenant_model.proofs.Attended.{done_kept_by, faulted_of}

pub KeepFaults-set : (jobs : List Work) (j : ℕ) (w : Work) → 1 ≤ j → j ≤ length jobs → (IsSome (job jobs j).fault → IsSome w.fault) → KeepFaults jobs (with_at_number jobs j w)
KeepFaults-set jobs j w from to keeps = record {
  faults = λ k fault. elim (cases_eq k j) [
    | inl same ↦
        let its : job (with_at_number jobs j w) k ≡ w = ap (job (with_at_number jobs j w)) same ∙ at_number-with_same jobs _ j w from to in
        rw its (keeps (rw (sym same) fault))
    | inr other ↦
        let its : job (with_at_number jobs j w) k ≡ job jobs k = at_number-with_other jobs _ j k w from other in
        rw its fault
  ];
}

-- no fault is past the last job
no_fault : (jobs : List Work) (k : ℕ) → length jobs < k → IsSome (job jobs k).fault → ⊥
no_fault jobs zero past fault = absurd (omega (arith, past))
no_fault jobs (suc k) past fault =
    let its : job jobs (suc k) ≡ job [] (suc k) = ap (λ o. unwrap_or o (job [] 0)) (slice_get_past jobs k (omega (arith, past))) in
    absurd (let no : is_some (job jobs (suc k)).fault ≡ false = ap (λ (w : Work). is_some w.fault) its in grind (arith, no, fault))

pub KeepFaults-push : (jobs : List Work) (w : Work) → KeepFaults jobs (jobs ++ w ∷ [])
KeepFaults-push jobs w = record {
  faults = λ k fault. elim (cases_lt (length jobs) k) [
    | inl past ↦ absurd (no_fault jobs k past fault)
    | inr within ↦ rw (at_number-push_old jobs _ k w within) fault
  ];
}

pub KeepFaults-retired : (jobs : List Work) → KeepFaults jobs (map retired_work jobs)
KeepFaults-retired jobs = record { faults = retired_faults jobs }
  where
    same_fault : (o : Option Work) → (unwrap_or (option_map retired_work o) (job [] 0)).fault ≡ (unwrap_or o (job [] 0)).fault
    same_fault None = refl
    same_fault (Some w) = refl

    retired_faults : (jobs : List Work) (k : ℕ) → IsSome (job jobs k).fault → IsSome (job (map retired_work jobs) k).fault
    retired_faults jobs zero fault = fault
    retired_faults jobs (suc k) fault =
        let its : (job (map retired_work jobs) (suc k)).fault ≡ (job jobs (suc k)).fault =
        ap (λ o. (unwrap_or o (job [] 0)).fault) (slice_get-map retired_work jobs k) ∙ same_fault (slice_get jobs k) in
        rw its fault

some_fault : (o : Option JobFault) (e : JobFault) → IsSome (first_fault o e)
some_fault None e = refl
some_fault (Some f) e = refl

faulted_stay : (s : State) (slot n : ℕ) (e : JobFault) → IsAt s slot n → Both s → MakersStay (faulted_at s slot n e)
faulted_stay s slot n e at is =
    let j = (row s.rows n).job in
    let there = at.well.linked.jobs n at.from at.to in
    let w = record (job s.jobs j) { fault = first_fault (job s.jobs j).fault e } in
    let jobs = with_at_number s.jobs j w in
    let t = record s { jobs = jobs } in
    let rows = map (faulted_row slot (task_height s.rows slot)) s.rows in
    let own : (k : ℕ) → k ≡ j → IsSome (job jobs k).fault = λ k same.
    let its : job jobs k ≡ w = ap (job jobs) same ∙ at_number-with_same s.jobs _ j w there.0 there.1 in
    rw its (some_fault (job s.jobs j).fault e) in
    MakersStay-ends t rows (EndsSome-faulted s.rows slot (task_height s.rows slot))
    (λ x m opened made was_open ended. own (row s.rows x).job (is.0.shared x m made ∙ faulted_of s slot n at is.0 m was_open ended))
    (MakersStay-jobs s jobs (KeepFaults-set s.jobs j w there.0 there.1 (λ fault. some_fault (job s.jobs j).fault e)) is.1)

-- what is dropped has made nothing
dropped_waits : (r : Row) (b : Bool) (p : Phase) → r.phase ≡ p → is_open p ≡ true → is_open (settled_row r b).phase ≡ false → is_unstarted p ≡ true
dropped_waits r b Unstarted is opened ended = refl
dropped_waits r b (Live t h) is opened ended = absurd (let no : true ≡ false = rw is at ended in grind (arith, no))
dropped_waits r b (Done v) is opened ended = absurd (grind (arith, opened))
dropped_waits r b Dropped is opened ended = absurd (grind (arith, opened))
dropped_waits r b Faulted is opened ended = absurd (grind (arith, opened))

pub open_there : (rows : List Row) (n : ℕ) → is_open (row rows n).phase ≡ true → (1 ≤ n) × (n ≤ length rows)
open_there rows zero opened = absurd (grind (arith, opened))
open_there rows (suc n) opened = elim (cases_lt (length rows) (suc n)) [
  | inl past ↦ absurd (let no : is_open (row rows (suc n)).phase ≡ false = rw (row-past rows (suc n) past) refl in grind (arith, no, opened))
  | inr within ↦ (omega arith, within)
]

entry_stays : (s : State) → Both s → Both (entry s)
entry_stays s is =
    let t = record s { entries = s.entries + 1 } in (
      entry_tended s is.0,
      MakersStay-ends t (settle t).rows (EndsSome-settle t) (λ x m opened made was_open ended.
          let there = open_there s.rows m was_open in
          let settled : is_open (settled_row (row s.rows m) (is_context_cancelled t m)).phase ≡ false = ap (λ (r : Row). is_open r.phase) (sym (row-settle t m there.0 there.1)) ∙ ended in
          let waits = dropped_waits (row s.rows m) (is_context_cancelled t m) (row s.rows m).phase refl was_open settled in
          absurd (grind (arith, waits, is.0.started x m made)))
          (MakersStay-beside s (s.entries + 1) s.epoch s.cells is.1),
    )

framed_well : (s : State) (slot n : ℕ) → IsAt s slot n → (f : Frame) → IsWellFormed (with_frame s n f)
framed_well s slot n at f = on_row_kept s n (λ r. record r { frame = f }) at.from at.to refl refl (at.well.marked n) refl at.well

pub nested_stays : (s : State) (slot m : ℕ) → IsWellFormed s → pick s slot ≡ Some m → Both s → MakersStay (nest s slot m)
nested_stays s slot m well picked is =
    let its = pick_is s.config.isolation s.rows slot m picked in
    MakersStay-set s m (record (row s.rows m) { phase = Live slot (height s.rows slot + 1) }) its.0 its.1 refl refl (λ opened. waits_open (row s.rows m).phase its.2)
    (λ closed x opened made. absurd (let no : true ≡ false = closed in grind (arith, no))) is.1
  where
    waits_open : (p : Phase) → is_unstarted p ≡ true → is_open p ≡ true
    waits_open Unstarted waits = refl
    waits_open (Live t h) waits = refl
    waits_open (Done v) waits = absurd (grind (arith, waits))
    waits_open Dropped waits = absurd (grind (arith, waits))
    waits_open Faulted waits = absurd (grind (arith, waits))

pub added_stay : (s : State) (j : Job) (phase : Phase) → IsWellFormed s → Both s → MakersStay (add_job s j phase)
added_stay s j phase well is =
    let r = new_row Root (length s.jobs + 1) None (new_frame 0 (slice_index_or j.args 0 (pos 0)) (slice_index_or j.args 1 (pos 0))) phase in
    let pushed = MakersStay-push s r well (λ m made. absurd (let no : None ≡ Some m = made in cc)) (λ m g kind. absurd (let no : None ≡ Some m = ap maker_of kind in cc)) is.1 in
    MakersStay-jobs (record s { rows = s.rows ++ r ∷ [] }) (s.jobs ++ new_job s j ∷ []) (KeepFaults-push s.jobs (new_job s j)) pushed

pub same_number : (n m : ℕ) → Some n ≡ Some m → m ≡ n
same_number n m same = grind (arith, same)

abbrev group_or_0 : Kind → ℕ
group_or_0 (Spawned m g) = g
group_or_0 k = 0

pub spawned_group : (n g : ℕ) → g < GROUPS → (m h : ℕ) → Spawned n g ≡ Spawned m h → h < GROUPS
spawned_group n g low m h same = let e : g ≡ h = ap group_or_0 same in omega (arith, e, low)

pub no_region : (n m g : ℕ) → Region n ≡ Spawned m g → ⊥
no_region n m g same = let no : true ≡ false = ap is_region same in grind (arith, no)

attended_advances : (slot : ℕ) → KeepsAdvances IsUnstuck Both Both slot
attended_advances slot =
    let tended = tended_advances slot in
    record {
      fueled = λ s n f at p. let there = at.well.linked.jobs n at.from at.to in on_job_unstuck s (row s.rows n).job (λ w. record w { fuel = f }) there.0 there.1 refl p;
      fuel = λ s n f at p is.
          let there = at.well.linked.jobs n at.from at.to in
          let w = record (job s.jobs (row s.rows n).job) { fuel = f } in
          (tended.fuel s n f at tt is.0, MakersStay-jobs s (with_at_number s.jobs (row s.rows n).job w) (KeepFaults-set s.jobs (row s.rows n).job w there.0 there.1 (λ fault. fault)) is.1);
      fault = λ s n e at p is. (tended.fault s n e at tt is.0, faulted_stay s slot n e at is);
      frame = λ s n f at p same is. (tended.frame s n f at tt same is.0, framed_kept s slot n at is f);
      cells = λ s t table is. (tended.cells s t table is.0, MakersStay-beside s s.entries s.epoch t is.1);
      spawn = λ s n f g q a b at p same here room is. (
        tended.spawn s n f g q a b at tt same here room is.0,
        let there = at.well.linked.jobs n at.from at.to in
            let group : g < GROUPS = names_groups (program_of s n) (p.programs (row s.rows n).job there.0 there.1) f (Spawn g q a b) here in
            made_kept s slot n at is (next_place f) (new_row (Spawned n g) (row s.rows n).job (Some slot) (called_frame f q a b) Unstarted) (framed_well s slot n at (next_place f))
            (λ m made. same_number n m made) (spawned_group n g group),
      );
      post = λ s n f q a b at p same room is. (
        tended.post s n f q a b at tt same room is.0,
        made_kept s slot n at is (next_place f) (new_row Posted (row s.rows n).job None (called_frame f q a b) Unstarted) (framed_well s slot n at (next_place f))
            (λ m made. absurd (let no : None ≡ Some m = made in cc)) (λ m g kind. absurd (let no : None ≡ Some m = ap maker_of kind in cc)),
      );
      isolate = λ s n f d q a b at p same here room low is. (
        tended.isolate s n f d q a b at tt same here room low is.0,
        made_kept s slot n at is f (new_row (Region n) (row s.rows n).job (Some slot) (called_frame f q a b) (Live slot (height s.rows slot + 1))) (framed_well s slot n at f)
            (λ m made. same_number n m made) (λ m g kind. absurd (no_region n m g kind)),
      );
      wait = λ s n f g at p same none is. (
        tended.wait s n f g at tt same none is.0,
        kept_at s slot n at is (record (row s.rows n) { frame = f; marks = slice_set (row s.rows n).marks g (record { rows = length s.rows; cancelled = false }) }) refl refl refl,
      );
      cancel = λ s n f g at p same is. (
        tended.cancel s n f g at tt same is.0,
        kept_at s slot n at is (record (row s.rows n) { frame = f; marks = slice_set (row s.rows n).marks g (record (mark s.rows n g) { cancelled = true }) }) refl refl refl,
      );
      done = λ s n f a at p same unused is.
          (tended.done s n f a at tt same unused is.0, done_kept_by s slot n at f (register f a) (row s.rows n).kind refl (over_kept s slot n at is f (register f a) unused));
      nest = λ s m well low p picked high is. (tended.nest s m well low tt picked high is.0, nested_stays s slot m well picked is);
      enter = entry_stays;
    }

attended_asks : KeepsAsks IsUnstuck Both Both
attended_asks = record {
  none = λ s is. is;
  add = λ s j well p room is. (tended_asks.add s j well tt room is.0, added_stay s j Unstarted well is);
  place = λ s j slot well p room low empty is. (tended_asks.place s j slot well tt room low empty is.0, added_stay s j (Live slot 1) well is);
  cancel = λ s j w well p known first is. (
    tended_asks.cancel s j w well tt known first is.0,
    let there = known_there s.jobs j (at_number s.jobs j) w refl known in
        let v = record (job s.jobs j) { cancelled = true } in
        MakersStay-jobs s (with_at_number s.jobs j v) (KeepFaults-set s.jobs j v there.0 there.1 (λ fault. fault)) is.1,
  );
  release = λ s j w well p known over is. (
    tended_asks.release s j w well tt known over is.0,
    let there = known_there s.jobs j (at_number s.jobs j) w refl known in
        let v = retired_work (job s.jobs j) in
        MakersStay-jobs s (with_at_number s.jobs j v) (KeepFaults-set s.jobs j v there.0 there.1 (λ fault. fault)) is.1,
  );
  retire = λ s well p closed is. (
    tended_asks.retire s well tt closed is.0,
    MakersStay-beside (record s { jobs = map retired_work s.jobs }) s.entries (s.epoch + 1) no_cells (MakersStay-jobs s (map retired_work s.jobs) (KeepFaults-retired s.jobs) is.1),
  );
  enter = entry_stays;
}

-- Each step preserves that makers stay, if the programs of all jobs are valid.
pub advance_attended : (s : State) (slot : ℕ) → IsWellFormed s → IsUnstuck s → Both s → Both (advance s slot).1
advance_attended s slot well unstuck is = advance_keeps IsUnstuck Both Both slot (attended_advances slot) s well unstuck is

pub arrive_attended : (s : State) (slot : ℕ) → IsWellFormed s → IsUnstuck s → Both s → Both (arrive s slot).1
arrive_attended s slot well unstuck is = arrive_keeps IsUnstuck Both Both slot (attended_advances slot) s well unstuck is

pub ask_attended : (s : State) (r : Request) → IsWellFormed s → IsUnstuck s → Both s → Both (ask s r).1
ask_attended s r well unstuck is = ask_keeps IsUnstuck Both Both attended_asks s well unstuck is r

pub empty_attended : (c : Tenant) → MakersStay (empty c)
empty_attended c = record {
  groups = λ n m g spawned. absurd (no_row_made n m (ap maker_of spawned));
  makers = λ n m opened made. absurd (no_row_made n m made);
}
