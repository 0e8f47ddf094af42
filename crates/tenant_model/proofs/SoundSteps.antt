-- Every step keeps a state sound.
use Rattle.std.proofs.Common.{◌≡◌, ℕ, zero, suc, ◌+◌, ◌≤◌, List, [], ◌∷◌, length, None, Bool, true, false, ◌||◌, refl, sym, ap, ◌∙◌, arith, inl, inr, ℤ, pos}
use Rattle.std.proofs.lemmas.Bool.{cases_eq, cases_lt}
use Rattle.std.proofs.lemmas.List.{length_push, length-map}
use Rattle.std.specs.Prelude.{slice_index_or}
use Rattle.std.specs.List.{list_any}
use Rattle.job_language.specs.declared.requests.Request.{Request}
use Rattle.job_language.specs.declared.steps.Step.{Step}
use Rattle.job_language.specs.declared.steps.Step.TheVariants.{Ask, Arrive, Advance}
use Rattle.job_language.specs.declared.tenants.Tenant.{Tenant}
use Rattle.job_language.specs.declared.tenants.TheConstants.{MAX_SLOTS}
use Rattle.job_step.specs.declared.frames.Frame.{Frame}
use Rattle.job_step.specs.Frame.{new_frame, register}
use Rattle.tenant_model.specs.declared.rows.Kind.{Kind}
use Rattle.tenant_model.specs.declared.rows.Kind.TheVariants.{Root, Posted, Spawned, Region}
use Rattle.job_language.specs.declared.jobs.Job.{Job}
use Rattle.tenant_model.specs.declared.rows.Phase.{Phase}
use Rattle.tenant_model.specs.declared.rows.Phase.TheVariants.{Unstarted, Live, Done, Dropped, Faulted}
use Rattle.tenant_model.specs.declared.rows.Row.{Row}
use Rattle.tenant_model.specs.State.{State, empty, row, job}
use Rattle.tenant_model.specs.Walks.{is_unstarted, is_job_cancelled, is_group_cancelled, is_context_cancelled, chain, settled_row, settle}
use Rattle.tenant_model.specs.Changes.{on_row, new_row, add_row, entry, with_frame, nest, task_height, faulted_row}
use Rattle.tenant_model.specs.Shared.{hand_back}
use Rattle.tenant_model.specs.Advance.{with_fuel, advance, arrive}
use Rattle.tenant_model.specs.Asks.{add_job, new_job, retired_work, ask}
use Rattle.tenant_model.specs.Solo.{step, after}
use Rattle.tenant_model.specs.Naming.{IsUnstuck}
use Rattle.tenant_model.specs.WellFormed.{IsWellFormed}
use Rattle.tenant_model.specs.Sound.{IsTended, IsCounted, IsSettled, IsSound, MakersStay}
use Rattle.tenant_model.specs.Later.{IsLater, OutcomesStay}
use Rattle.tenant_model.proofs.Within.{either_way}
use Rattle.tenant_model.proofs.Changed.{row-past, at_number-with_same, at_number-with_other, length-with}
use Rattle.tenant_model.proofs.Contexts.{is_context_cancelled-same}
use Rattle.tenant_model.proofs.Parts.{row-settle}
use Rattle.tenant_model.proofs.KeptAdvances.{step_kept, empty_kept}
use Rattle.tenant_model.proofs.Invariance.{IsAt, KeepsAdvances, KeepsAsks, advance_keeps, arrive_keeps, ask_keeps}
use Rattle.tenant_model.proofs.Tended.{EndsSome-settle, Nothing, advance_tended, arrive_tended, ask_tended, empty_tended}
use Rattle.tenant_model.proofs.AttendedSteps.{advance_attended, arrive_attended, ask_attended}
use Rattle.tenant_model.proofs.LaterSteps.{ended_outcome, outcome_ended, step_later}
use Rattle.tenant_model.proofs.Later.{later-same, later-then}

-- at most one row and one job more than entries
record IsCountedNext (s : State) : Type 0 where
  rows : length s.rows ≤ s.entries + 1
  jobs : length s.jobs ≤ s.entries + 1

counted_next : (s : State) → IsCounted s → IsCountedNext s
counted_next s is = record { rows = omega (arith, is.rows); jobs = omega (arith, is.jobs) }

counted_beside : (s t : State) → length t.rows ≡ length s.rows → length t.jobs ≡ length s.jobs → t.entries ≡ s.entries → IsCounted s → IsCountedNext t
counted_beside s t rows jobs entries is = record { rows = omega (arith, rows, entries, is.rows); jobs = omega (arith, jobs, entries, is.jobs) }

counted_more : (s t : State) → length t.rows ≡ length s.rows + 1 → length t.jobs ≤ length s.jobs + 1 → t.entries ≡ s.entries → IsCounted s → IsCountedNext t
counted_more s t rows jobs entries is = record { rows = omega (arith, rows, entries, is.rows); jobs = omega (arith, jobs, entries, is.jobs) }

made_more : (s : State) (n : ℕ) (f : Frame) (r : Row) → IsCounted s → IsCountedNext (add_row (with_frame s n f) r)
made_more s n f r is = counted_more s (add_row (with_frame s n f) r) (length_push (with_frame s n f).rows r ∙ ap (λ k. k + 1) (length-with s.rows n (record (row s.rows n) { frame = f })))
    (omega arith) refl is

added_more : (s : State) (j : Job) (phase : Phase) → IsCounted s → IsCountedNext (add_job s j phase)
added_more s j phase is =
    let r = new_row Root (length s.jobs + 1) None (new_frame 0 (slice_index_or j.args 0 (pos 0)) (slice_index_or j.args 1 (pos 0))) phase in
    counted_more s (add_job s j phase) (length_push s.rows r) (omega (arith, length_push s.jobs (new_job s j))) refl is

counted_entry : (s : State) → IsCountedNext s → IsCounted (entry s)
counted_entry s is = record { rows = omega (arith, is.rows, (EndsSome-settle (record s { entries = s.entries + 1 })).long); jobs = is.jobs }

counted_done : (s : State) (n : ℕ) (f : Frame) (v : ℤ) (k : Kind) → IsCounted s → IsCountedNext (hand_back (on_row s n (λ r. record r { frame = f; phase = Done v })) k v)
counted_done s n f v Root is = counted_beside s _ (length-with s.rows n _) refl refl is
counted_done s n f v Posted is = counted_beside s _ (length-with s.rows n _) refl refl is
counted_done s n f v (Spawned m g) is = counted_beside s _ (length-with s.rows n _) refl refl is
counted_done s n f v (Region m) is =
    counted_beside s (hand_back (on_row s n (λ r. record r { frame = f; phase = Done v })) (Region m) v)
    (length-with (on_row s n (λ r. record r { frame = f; phase = Done v })).rows m _ ∙ length-with s.rows n _) refl refl is

counted_advances : (slot : ℕ) → KeepsAdvances Nothing IsCounted IsCountedNext slot
counted_advances slot = record {
  fueled = λ s n f at p. tt;
  fuel = λ s n f at p is. record { rows = is.rows; jobs = omega (arith, is.jobs, length-with s.jobs (row s.rows n).job (record (job s.jobs (row s.rows n).job) { fuel = f })) };
  fault = λ s n e at p is. counted_beside s _ (length-map s.rows (faulted_row slot (task_height s.rows slot))) (length-with s.jobs (row s.rows n).job _) refl is;
  frame = λ s n f at p same is. counted_beside s _ (length-with s.rows n _) refl refl is;
  cells = λ s t table is. record { rows = is.rows; jobs = is.jobs };
  spawn = λ s n f g q a b at p same here room is. made_more s n _ _ is;
  post = λ s n f q a b at p same room is. made_more s n _ _ is;
  isolate = λ s n f d q a b at p same here room low is. made_more s n f _ is;
  wait = λ s n f g at p same none is. counted_beside s _ (length-with s.rows n _) refl refl is;
  cancel = λ s n f g at p same is. counted_beside s _ (length-with s.rows n _) refl refl is;
  done = λ s n f a at p same unused is. counted_done s n f (register f a) (row s.rows n).kind is;
  nest = λ s m well low p picked high is. counted_beside s (nest s slot m) (length-with s.rows m _) refl refl is;
  enter = counted_entry;
}

counted_asks : KeepsAsks Nothing IsCounted IsCountedNext
counted_asks = record {
  none = counted_next;
  add = λ s j well p room is. added_more s j Unstarted is;
  place = λ s j slot well p room low empty is. added_more s j (Live slot 1) is;
  cancel = λ s j w well p known first is. counted_beside s _ refl (length-with s.jobs j _) refl is;
  release = λ s j w well p known over is. counted_beside s _ refl (length-with s.jobs j _) refl is;
  retire = λ s well p closed is. counted_beside s _ refl (length-map s.jobs retired_work) refl is;
  enter = counted_entry;
}

-- A state has settled after each entry.
waits_uncancelled : (r : Row) (b : Bool) (p : Phase) → r.phase ≡ p → is_unstarted (settled_row r b).phase ≡ true → b ≡ false
waits_uncancelled r b Unstarted is waits = elim (either_way b) [
  | inl cancelled ↦ absurd (let no : false ≡ true = rw (is, cancelled) at waits in grind (arith, no))
  | inr open_still ↦ open_still
]
waits_uncancelled r b (Live t h) is waits = absurd (let no : false ≡ true = rw is at waits in grind (arith, no))
waits_uncancelled r b (Done v) is waits = absurd (let no : false ≡ true = rw is at waits in grind (arith, no))
waits_uncancelled r b Dropped is waits = absurd (let no : false ≡ true = rw is at waits in grind (arith, no))
waits_uncancelled r b Faulted is waits = absurd (let no : false ≡ true = rw is at waits in grind (arith, no))

unstarted_there : (rows : List Row) (n : ℕ) → is_unstarted (row rows n).phase ≡ true → (1 ≤ n) × (n ≤ length rows)
unstarted_there rows zero waits = absurd (grind (arith, waits))
unstarted_there rows (suc n) waits = elim (cases_lt (length rows) (suc n)) [
  | inl past ↦ absurd (let no : is_unstarted (row rows (suc n)).phase ≡ false = rw (row-past rows (suc n) past) refl in grind (arith, no, waits))
  | inr within ↦ (omega arith, within)
]

pub entry_settled : (s : State) → IsSettled (entry s)
entry_settled s n waits =
    let t = record s { entries = s.entries + 1 } in
    let ends = EndsSome-settle t in
    let there = unstarted_there (settle t).rows n waits in
    let to : n ≤ length t.rows = omega (arith, there, ends.long) in
    let uncancelled = waits_uncancelled (row t.rows n) (is_context_cancelled t n) (row t.rows n).phase refl (ap (λ (r : Row). is_unstarted r.phase) (sym (row-settle t n there.0 to)) ∙ waits) in
    is_context_cancelled-same t (settle t) (record { sources = record { long = ends.long; kinds = ends.kinds; jobs = ends.jobs }; marks = ends.marks }) refl n ∙ uncancelled

settled_fuel : (s : State) (slot n f : ℕ) → IsAt s slot n → IsSettled s → IsSettled (with_fuel s n f)
settled_fuel s slot n f at is m waits =
    let there = at.well.linked.jobs n at.from at.to in
    let j = (row s.rows n).job in
    let same : is_job_cancelled (job (with_fuel s n f).jobs (row s.rows m).job) ≡ is_job_cancelled (job s.jobs (row s.rows m).job) = elim (cases_eq (row s.rows m).job j) [
      | inl own ↦ rw own (ap is_job_cancelled (at_number-with_same s.jobs _ j (record (job s.jobs j) { fuel = f }) there.0 there.1))
      | inr other ↦ ap is_job_cancelled (at_number-with_other s.jobs _ j (row s.rows m).job (record (job s.jobs j) { fuel = f }) there.0 other)
    ] in
    ap (λ b. b || list_any (λ k. is_group_cancelled s.rows (row s.rows k).kind) (chain s.rows m)) same ∙ is m waits

settled_advances : (slot : ℕ) → KeepsAdvances Nothing IsSettled Nothing slot
settled_advances slot = record {
  fueled = λ s n f at p. tt;
  fuel = λ s n f at p is. settled_fuel s slot n f at is;
  fault = λ s n e at p is. tt;
  frame = λ s n f at p same is. tt;
  cells = λ s t table is. tt;
  spawn = λ s n f g q a b at p same here room is. tt;
  post = λ s n f q a b at p same room is. tt;
  isolate = λ s n f d q a b at p same here room low is. tt;
  wait = λ s n f g at p same none is. tt;
  cancel = λ s n f g at p same is. tt;
  done = λ s n f a at p same unused is. tt;
  nest = λ s m well low p picked high is. tt;
  enter = λ s is. entry_settled s;
}

settled_asks : KeepsAsks Nothing IsSettled Nothing
settled_asks = record {
  none = λ s is. tt;
  add = λ s j well p room is. tt;
  place = λ s j slot well p room low empty is. tt;
  cancel = λ s j w well p known first is. tt;
  release = λ s j w well p known over is. tt;
  retire = λ s well p closed is. tt;
  enter = λ s is. entry_settled s;
}

tended_step : (s : State) (x : Step) → IsSound s → IsTended (step s x).1
tended_step s (Ask r) is = ask_tended s r is.well_formed is.tended
tended_step s (Arrive slot) is = arrive_tended s slot is.well_formed is.tended
tended_step s (Advance slot) is = advance_tended s slot is.well_formed is.tended

counted_step : (s : State) (x : Step) → IsSound s → IsCounted (step s x).1
counted_step s (Ask r) is = ask_keeps Nothing IsCounted IsCountedNext counted_asks s is.well_formed tt is.counted r
counted_step s (Arrive slot) is = arrive_keeps Nothing IsCounted IsCountedNext slot (counted_advances slot) s is.well_formed tt is.counted
counted_step s (Advance slot) is = advance_keeps Nothing IsCounted IsCountedNext slot (counted_advances slot) s is.well_formed tt is.counted

settled_step : (s : State) (x : Step) → IsSound s → IsSettled (step s x).1
settled_step s (Ask r) is = ask_keeps Nothing IsSettled Nothing settled_asks s is.well_formed tt is.settled r
settled_step s (Arrive slot) is = arrive_keeps Nothing IsSettled Nothing slot (settled_advances slot) s is.well_formed tt is.settled
settled_step s (Advance slot) is = advance_keeps Nothing IsSettled Nothing slot (settled_advances slot) s is.well_formed tt is.settled

pub step_sound : (s : State) (x : Step) → IsSound s → IsSound (step s x).1
step_sound s x is = record { well_formed = step_kept s x is.well_formed; tended = tended_step s x is; counted = counted_step s x is; settled = settled_step s x is }

pub empty_sound : (c : Tenant) → c.slots ≤ MAX_SLOTS → c.reserved ≤ c.slots → IsSound (empty c)
empty_sound c slots reserved = record {
  well_formed = empty_kept c slots;
  tended = empty_tended c reserved;
  counted = record { rows = omega arith; jobs = omega arith };
  settled = λ n waits. let there = unstarted_there [] n waits in absurd (omega (arith, there));
}

-- Makers stay, if the programs of all jobs are valid.
pub step_attended : (s : State) (x : Step) → IsSound s → IsUnstuck s → MakersStay s → MakersStay (step s x).1
step_attended s (Ask r) is unstuck stay = (ask_attended s r is.well_formed unstuck (is.tended, stay)).1
step_attended s (Arrive slot) is unstuck stay = (arrive_attended s slot is.well_formed unstuck (is.tended, stay)).1
step_attended s (Advance slot) is unstuck stay = (advance_attended s slot is.well_formed unstuck (is.tended, stay)).1

-- Runs keep what steps keep.
pub after_sound : (s : State) (xs : List Step) → IsSound s → IsSound (after s xs)
after_sound s [] is = is
after_sound s (x ∷ xs) is = after_sound (step s x).1 xs (step_sound s x is)

pub after_later : (s : State) (xs : List Step) → IsWellFormed s → IsLater s (after s xs)
after_later s [] well = later-same s
after_later s (x ∷ xs) well = later-then s (step s x).1 (after (step s x).1 xs) (step_later s x well) (after_later (step s x).1 xs (step_kept s x well))

-- an outcome stays
pub outcomes_stay : (s t : State) → IsTended s → IsLater s t → OutcomesStay s t
outcomes_stay s t is later j from to over =
    let ended = outcome_ended s j over in
    let stays = later.ended j to ended in
    let root = is.roots j from to in
    let works = later.jobs j to in
    let same : row t.rows (job s.jobs j).root ≡ row s.rows (job s.jobs j).root = (later.rows (job s.jobs j).root root.to).closed (ended (job s.jobs j).root root.job) in
    let still = ended_outcome t j stays.ended in
    rw (still, over, stays.cancelled, stays.fault, works.root, same) refl

-- the same of each kind of step
pub ask_sound : (s : State) (r : Request) → IsSound s → IsSound (ask s r).1
ask_sound s r is = step_sound s (Ask r) is

pub arrive_sound : (s : State) (slot : ℕ) → IsSound s → IsSound (arrive s slot).1
arrive_sound s slot is = step_sound s (Arrive slot) is

pub advance_sound : (s : State) (slot : ℕ) → IsSound s → IsSound (advance s slot).1
advance_sound s slot is = step_sound s (Advance slot) is
