-- Steps that keep what an arena stands for.
use Rattle.std.proofs.Common.{◌≡◌, ◌≢◌, ℕ, ◌+◌, ◌<◌, ◌≤◌, length, Some, None, true, false, refl, sym, ap, ◌∙◌, arith, inl, inr, subst}
use Rattle.std.proofs.lemmas.Bool.{cases_eq}
use Rattle.std.proofs.lemmas.List.Sums.{sum_by-set}
use Rattle.job_step.specs.declared.frames.Frame.{Frame}
use Rattle.ready_pool.specs.Ready.{Ready}
use Rattle.nest_stack.specs.Nest.{stack}
use Rattle.tenant_model.specs.declared.rows.Kind.{Kind}
use Rattle.tenant_model.specs.declared.rows.Kind.TheVariants.{Root, Posted, Spawned, Region}
use Rattle.tenant_model.specs.declared.rows.Phase.{Phase}
use Rattle.tenant_model.specs.declared.rows.Phase.TheVariants.{Unstarted, Live, Done, Dropped, Faulted}
use Rattle.tenant_model.specs.declared.rows.Row.{Row}
use Rattle.tenant_model.specs.State.{State, row, with_at_number}
use Rattle.tenant_model.specs.Walks.{is_open, is_unstarted, is_region, height, settle, is_context_cancelled}
use Rattle.tenant_model.specs.Changes.{nest, entry}
use Rattle.tenant_model.specs.Sound.{IsSteady, IsSettled}
use Rattle.tenant_model.proofs.Changed.{row-with_same, row-with_other}
use Rattle.tenant_model.proofs.Within.{either_way}
use Rattle.tenant_model.proofs.Steady.{steady_entries}
use Rattle.tenant_model.proofs.Settling.{settle-from}
use Rattle.arena_rows.specs.declared.rows.OpenRow.{OpenRow}
use Rattle.arena_rows.specs.declared.rows.Stage.{Stage}
use Rattle.arena_rows.specs.declared.rows.Stage.TheVariants as stage
use Rattle.arena_rows.specs.Held.{Held}
use Rattle.arena_rows.specs.Represents.{id_of, at_place, nested_of, IsRow, Stands, held_by, Holds, Rests}
use Rattle.arena_rows.specs.HeldChanges.{started, counted}
use Rattle.arena_rows.proofs.Tops.{height_is}
use Rattle.arena_rows.proofs.Alike.{Alike, Alike-set, IsGroup-alike}
use Rattle.arena_rows.proofs.Started.{at_same, at_other, some_is, AreRows-set, AreFree-set, AreTagged-set, waiting-with, pool-without}
use Rattle.arena_rows.proofs.Pushed.{AreNests-pushed}
use Rattle.arena_rows.proofs.Kept.{AreContexts-alike, AreJobs-alike, IsSettled-alike}

pub unstarted_is : (p : Phase) → is_unstarted p ≡ true → p ≡ Unstarted
unstarted_is Unstarted is = refl
unstarted_is (Live t h) is = absurd (grind (arith, is))
unstarted_is (Done v) is = absurd (grind (arith, is))
unstarted_is Dropped is = absurd (grind (arith, is))
unstarted_is Faulted is = absurd (grind (arith, is))

no_region : (k : Kind) → ((m : ℕ) → k ≡ Region m → ⊥) → is_region k ≡ false
no_region Root none = refl
no_region Posted none = refl
no_region (Spawned m g) none = refl
no_region (Region m) none = absurd (none m refl)

abbrev frame_of : Stage → Frame → Frame
frame_of (stage.Waiting f) d = f
frame_of (stage.Live s h) d = d

module _ (a : Held) (s : State) (is : Holds a s) (slot n : ℕ) (e : OpenRow) (f : Frame) (from : 1 ≤ n) (to : n ≤ length s.rows) (off : is_unstarted (row s.rows n).phase ≡ true)
    (within : slot < a.config.slots)
    (there : at_place a.table (is.places n) ≡ Some e) (waits : e.stage ≡ stage.Waiting f) (kept : IsSteady (nest s slot n)) where
  abbrev r : Row
  r = record (row s.rows n) { phase = Live slot (height s.rows slot + 1) }

  abbrev e' : OpenRow
  e' = record e { stage = stage.Live slot (length (stack a.nests slot) + 1) }

  phase_is : (row s.rows n).phase ≡ Unstarted
  phase_is = unstarted_is (row s.rows n).phase off

  opened : is_open (row s.rows n).phase ≡ true
  opened = rw phase_is refl

  its : Stands s.rows is.places a.table n
  its = is.table.each n opened

  entry_is : its.entry ≡ e
  entry_is = some_is its.entry e (sym its.there ∙ there)

  is_row : IsRow s.rows is.places n e
  is_row = let P : OpenRow → Type 0 = λ x. IsRow s.rows is.places n x in subst P entry_is its.is

  frame_is : (row s.rows n).frame ≡ f
  frame_is = let both : stage.Waiting (row s.rows n).frame ≡ stage.Waiting f = sym (rw phase_is at is_row.stage) ∙ waits in ap (λ x. frame_of x f) both

  high : length (stack a.nests slot) ≡ height s.rows slot
  high = height_is s.rows is.places a.config.slots a.nests is.steady.formed.stacked is.nests slot

  alike : Alike s.rows (with_at_number s.rows n r)
  alike = Alike-set s.rows n r from to refl refl refl refl (rw phase_is refl) (rw phase_is refl)

  here : row (with_at_number s.rows n r) n ≡ r
  here = row-with_same s.rows n r from to

  others : (m : ℕ) → m ≢ n → row (with_at_number s.rows n r) m ≡ row s.rows m
  others m other = row-with_other s.rows n m r from other

  is_row' : IsRow (with_at_number s.rows n r) is.places n e'
  is_row' = record {
    number = is_row.number;
    source = is_row.source ∙ rw here refl;
    job = is_row.job ∙ rw here refl;
    made_on = is_row.made_on ∙ rw here refl;
    stage = rw (here, high) refl;
    groups = λ g few. IsGroup-alike s.rows (with_at_number s.rows n r) alike n g _ (is_row.groups g few);
    all_groups = is_row.all_groups;
    all_contexts = is_row.all_contexts;
  }

  started_phase : is_unstarted r.phase ≡ false
  started_phase = refl

  not_region : is_region (row s.rows n).kind ≡ false
  not_region = no_region (row s.rows n).kind (λ m kind. let no : is_unstarted (row s.rows n).phase ≡ false = is.steady.formed.on_makers.started n m kind in grind (arith, no, off))

  pushed_is : nested_of (with_at_number s.rows n r) is.places n ≡ record { frame = f; row = id_of is.places n; is_region = false }
  pushed_is = rw (here, frame_is, not_region) refl

  fewer : (m : ℕ) → is_unstarted (row (with_at_number s.rows n r) m).phase ≡ true → is_unstarted (row s.rows m).phase ≡ true
  fewer m waits_m = elim (cases_eq m n) [
    | inl same ↦ rw same off
    | inr other ↦ rw (others m other) at waits_m
  ]

  -- A row that waits, started.
  pub started_kept : Holds (started a slot (id_of is.places n) e f) (nest s slot n)
  started_kept = record {
    config = is.config;
    places = is.places;
    assigned = is.assigned;
    made = is.made ∙ sym alike.contexts.sources.long;
    made_jobs = is.made_jobs;
    table = AreRows-set s.rows (with_at_number s.rows n r) is.places a.table n e e' alike opened is.table there is_row.number is_row' (λ m other. rw (others m other) refl);
    free = AreFree-set s.rows (with_at_number s.rows n r) is.places a.table n e e' alike opened is.table there is_row.number is_row' (λ m other. rw (others m other) refl) a.config.rows is.free;
    nests = rw (← pushed_is) (AreNests-pushed s.rows (with_at_number s.rows n r) is.places a.config.slots a.nests n slot is.nests within
        (λ t h live. absurd (let started : is_unstarted (row s.rows n).phase ≡ false = rw live refl in grind (arith, started, off))) (rw (here, high) refl) others);
    tags = AreTagged-set s.rows (with_at_number s.rows n r) is.places a.table n e e' alike opened is.table there is_row.number is_row' (λ m other. rw (others m other) refl) a.regions is.tags;
    waiting = rw is.waiting (ap (λ rows. let p : Ready = record { isolation = a.config.isolation; limit = a.config.rows; slots = a.config.slots; rows = rows } in p)
        (pool-without s.rows (with_at_number s.rows n r) is.places n alike (waiting-with s.rows n r from to started_phase)));
    contexts = AreContexts-alike s (nest s slot n) alike refl fewer (length a.jobs) a.table _ a.contexts is.assigned
        (λ p x at_p. elim (cases_eq p (is.places n)) [
          | inl same ↦ let x_is : e' ≡ x = some_is e' x (sym (at_same a.table (is.places n) (Some e') its.within) ∙ (rw same at at_p)) in rw (← x_is) (is.contexts.in_table (is.places n) e there)
          | inr other ↦ is.contexts.in_table p x (sym (at_other a.table (is.places n) (Some e') its.within p other) ∙ at_p)
        ])
        (omega (arith, sum_by-set held_by a.table (is.places n) (Some e') None its.within, ap held_by there)) is.contexts;
    room = is.room;
    jobs = AreJobs-alike s (nest s slot n) alike refl is.assigned a.jobs is.jobs;
    cells = is.cells;
    entries = is.entries;
    epoch = is.epoch;
    steady = kept;
  }

  pub started_settled : IsSettled s → IsSettled (nest s slot n)
  started_settled settled = IsSettled-alike s (nest s slot n) alike refl fewer settled

-- A state in which no row waits whose context is cancelled has settled.
pub settle_none : (t : State) → ((n : ℕ) → is_unstarted (row t.rows n).phase ≡ true → is_context_cancelled t n ≡ false) → settle t ≡ t
settle_none t none = sym (settle-from t t (record {
  rest = refl;
  long = refl;
  before = λ n below. elim (either_way (is_unstarted (row t.rows n).phase)) [
    | inl waits ↦ rw (none n waits, waits) refl
    | inr does_not ↦ rw does_not refl
  ];
  after = λ n above. refl;
}))

-- An entry counted, where the state has settled.
pub settled_entry : (s : State) → IsSettled s → entry s ≡ record s { entries = s.entries + 1 }
settled_entry s settled = settle_none (record s { entries = s.entries + 1 }) settled

-- An entry counted, and no row dropped yet.
pub counted_holds : (a : Held) (s : State) → Holds a s → Holds (counted a) (record s { entries = s.entries + 1 })
counted_holds a s is = record {
  config = is.config;
  places = is.places;
  assigned = is.assigned;
  made = is.made;
  made_jobs = is.made_jobs;
  table = is.table;
  free = is.free;
  nests = is.nests;
  tags = is.tags;
  waiting = is.waiting;
  contexts = record {
    of_jobs = is.contexts.of_jobs;
    of_rows = is.contexts.of_rows;
    of_groups = is.contexts.of_groups;
    bare = is.contexts.bare;
    owned = is.contexts.owned;
    in_table =
        is.contexts.in_table;
    count = is.contexts.count;
  };
  room = is.room;
  jobs = record { order = is.jobs.order; there = is.jobs.there; works = is.jobs.works; each = is.jobs.each; all = is.jobs.all; later = is.jobs.later; many = is.jobs.many; few = is.jobs.few };
  cells = is.cells;
  entries = ap (λ k. k + 1) is.entries;
  epoch = is.epoch;
  steady = steady_entries s is.steady;
}

pub counted_rests : (a : Held) (s : State) → Rests a s → Rests (counted a) (entry s)
counted_rests a s rests = rw (settled_entry s rests.settled) (record { holds = counted_holds a s rests.holds; settled = rests.settled })
