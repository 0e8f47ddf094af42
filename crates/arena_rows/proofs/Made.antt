-- What is held stands for the state with one row more.
use Rattle.std.proofs.Common.{◌≡◌, ℕ, zero, suc, ◌+◌, ◌<◌, ◌≤◌, List, [], ◌∷◌, ◌++◌, length, Option, Some, None, true, false, refl, sym, ap, ◌∙◌, arith, map, length-set, pos, subst, get_or}
use Rattle.std.specs.Prelude.{IfSome, count_by, slice_index_or, slice_set, is_some, replicate}
use Rattle.std.specs.Option.{option_map}
use Rattle.std.proofs.lemmas.List.{length_push}
use Rattle.job_language.specs.declared.instructions.TheConstants.{GROUPS}
use Rattle.region_tag.specs.declared.row_id.RowId.{RowId}
use Rattle.region_tag.specs.Region.{tagged}
use Rattle.ready_pool.specs.Ready.{Ready}
use Rattle.nest_stack.specs.declared.stack.Nested.{Nested}
use Rattle.cancel_context.specs.Forest.{Forest}
use Rattle.task_group.specs.Groups.{group, unused, no_members}
use Rattle.tenant_model.specs.declared.rows.Kind.{Kind}
use Rattle.tenant_model.specs.declared.rows.Kind.TheVariants as kind
use Rattle.tenant_model.specs.declared.rows.Row.{Row}
use Rattle.tenant_model.specs.State.{State, row}
use Rattle.tenant_model.specs.Walks.{maker_of, is_open, is_region, is_spawned_by, value_in}
use Rattle.tenant_model.specs.Changes.{add_row}
use Rattle.tenant_model.specs.Linked.{MakersPrecede}
use Rattle.tenant_model.specs.Sound.{IsSteady}
use Rattle.tenant_model.proofs.Changed.{row-push_new}
use Rattle.tenant_model.proofs.AttendedSteps.{open_there}
use Rattle.arena_rows.specs.declared.rows.OpenRow.{OpenRow}
use Rattle.arena_rows.specs.declared.rows.CurrentJob.{CurrentJob}
use Rattle.arena_rows.specs.Held.{Held}
use Rattle.arena_rows.specs.Represents.{Places, id_of, at_place, source_of, stage_of, tag_of, tagged_of, waiting, waiting_of, IsRow, Stands, AreNests, AreTagged, Assigned, AreContexts, Holds, IsFree}
use Rattle.arena_rows.specs.HeldChanges.{next_id, outer_of, is_region_source, with_open}
use Rattle.arena_rows.proofs.FreePlaces.{one_taken}
use Rattle.arena_rows.proofs.PushedRows.{IsGroup-new}
use Rattle.arena_rows.proofs.Pushing.{IsRow-pushed, AreRows-pushed, AreFree-pushed, AreTagged-pushed, AreJobs-pushed}
use Rattle.arena_rows.proofs.Making.{is_next}

pub no_group : (g : ℕ) → group no_members g ≡ unused
no_group zero = refl
no_group (suc zero) = refl
no_group (suc (suc zero)) = refl
no_group (suc (suc (suc zero))) = refl
no_group (suc (suc (suc (suc g)))) = refl

pub source_region : (places : Places) (k : Kind) → is_region_source (source_of places k) ≡ is_region k
source_region places kind.Root = refl
source_region places kind.Posted = refl
source_region places (kind.Spawned m g) = refl
source_region places (kind.Region m) = refl

-- the entry of a row that has just been made
pub record IsFresh (a : Held) (places : Places) (r : Row) (e : OpenRow) : Type 0 where
  pub number : e.number ≡ a.made + 1
  pub source : e.source ≡ source_of places r.kind
  pub job : e.job ≡ r.job
  pub made_on : e.made_on ≡ r.made_on
  pub stage : e.stage ≡ stage_of r.frame r.phase
  pub groups : e.groups ≡ no_members
  pub contexts : e.group_contexts ≡ replicate GROUPS None

-- the table before the new entry: the rows in it are those that are open, with the new one a member of its group
pub record IsJoined (a : Held) (s : State) (places : Places) (r : Row) (table : List (Option OpenRow)) : Type 0 where
  pub long : length table ≡ length a.table
  pub each : (m : ℕ) → is_open (row s.rows m).phase ≡ true → Stands (s.rows ++ r ∷ []) places table m
  pub only : (q : ℕ) (x : OpenRow) → at_place table q ≡ Some x → (is_open (row s.rows x.number).phase ≡ true) × (places x.number ≡ q)
  pub tags : (q : ℕ) → option_map (tagged_of s.rows places) (at_place table q) ≡ option_map (tagged_of s.rows places) (at_place a.table q)
  pub vacant : (q : ℕ) → at_place a.table q ≡ None → at_place table q ≡ None
  pub taken : count_by is_some table ≡ count_by is_some a.table

-- a new row that is a member of no group leaves the table as it is
pub IsJoined-alone : (a : Held) (s : State) (is : Holds a s) (r : Row) → MakersPrecede s.rows → MakersPrecede (s.rows ++ r ∷ []) → ((m g : ℕ) → g < GROUPS → is_spawned_by m g r.kind ≡ false) →
    IsJoined a s is.places r a.table
IsJoined-alone a s is r precede precede' alone = record {
  long = refl;
  each = λ m opened.
      let its = is.table.each m opened in
      let there = open_there s.rows m opened in
      record { within = its.within; entry = its.entry; there = its.there; is = IsRow-pushed s.rows r precede precede' is.places m its.entry there.1 (alone m) its.is };
  only = is.table.only;
  tags = λ q. refl;
  vacant = λ q none. none;
  taken = refl;
}

module _ (a : Held) (s : State) (is : Holds a s) (place : ℕ) (r : Row) (e : OpenRow) (kept : IsSteady (add_row s r)) (vacant : IsFree a.table place) (placed : is.places (length s.rows + 1) ≡ place)
    (opened : is_open r.phase ≡ true) (none : value_in r.phase ≡ pos 0) (fresh : IsFresh a is.places r e)
    (table : List (Option OpenRow)) (joined : IsJoined a s is.places r table) where
  abbrev rows' : List Row
  rows' = s.rows ++ r ∷ []

  precede : MakersPrecede s.rows
  precede = is.steady.formed.linked.makers

  precede' : MakersPrecede rows'
  precede' = kept.formed.linked.makers

  new_row_is : row rows' (length s.rows + 1) ≡ r
  new_row_is = row-push_new s.rows (length s.rows + 1) r refl

  number_is : e.number ≡ length s.rows + 1
  number_is = fresh.number ∙ ap (λ k. k + 1) is.made

  is_row : IsRow rows' is.places (length s.rows + 1) e
  is_row = record {
    number = number_is;
    source = fresh.source ∙ sym (ap (λ (q : Row). source_of is.places q.kind) new_row_is);
    job = fresh.job ∙ sym (ap (λ (q : Row). q.job) new_row_is);
    made_on = fresh.made_on ∙ sym (ap (λ (q : Row). q.made_on) new_row_is);
    stage = fresh.stage ∙ sym (ap (λ (q : Row). stage_of q.frame q.phase) new_row_is);
    groups = λ g few. rw (fresh.groups, no_group g) (IsGroup-new s.rows r precede precede' g);
    all_groups = rw fresh.groups refl;
    all_contexts = rw fresh.contexts refl;
  }

  abbrev pub made_held : (forest : Forest) (d : CurrentJob) (i : ℕ) (pool : Ready) (nests : List (List Nested)) → Held
  made_held forest d i pool nests = record a {
    table = slice_set table place (Some e);
    made = a.made + 1;
    regions = slice_set a.regions place (Some (tagged (next_id a place) (outer_of a.regions e.source) (is_region_source e.source)));
    contexts = forest;
    jobs = slice_set a.jobs i (with_open (slice_index_or a.jobs i d));
    pool = pool;
    nests = nests;
  }

  pub made_holds : (forest : Forest) (at : Assigned) (d : CurrentJob) (i : ℕ) (pool : Ready) (nests : List (List Nested)) → ((c : CurrentJob) → r.job ≡ (get_or a.jobs i c).number) →
      i < length a.jobs → length forest ≡ length a.contexts → ((j : ℕ) → at.of_job j ≡ is.assigned.of_job j) →
      IfSome (maker_of r.kind) (λ m. (m ≤ length s.rows) × (outer_of a.regions e.source ≡ tag_of s.rows is.places m)) → (maker_of r.kind ≡ None → outer_of a.regions e.source ≡ None) →
      AreContexts (add_row s r) (length a.jobs) (slice_set table place (Some e)) forest at → AreNests rows' is.places a.config.slots nests →
      pool ≡ record { isolation = a.config.isolation; limit = a.config.rows; slots = a.config.slots; rows = map (waiting_of rows' is.places) (waiting rows') } →
      Holds (made_held forest d i pool nests) (add_row s r)
  made_holds forest at d i pool nests its_job below long of_jobs maker no_maker contexts are_nests are_waiting =
      let next = is_next a s is place vacant in
      let now_free : IsFree table place = record { within = omega (arith, next.within, joined.long); vacant = joined.vacant place next.vacant } in
      let jobs_long : length (slice_set a.jobs i (with_open (slice_index_or a.jobs i d))) ≡ length a.jobs = length-set a.jobs i _ in
      let region : is_region_source e.source ≡ is_region r.kind = ap is_region_source fresh.source ∙ source_region is.places r.kind in
      let id : next_id a place ≡ id_of is.places (length s.rows + 1) =
      (let f : ℕ → ℕ → RowId = λ k p. record { number = k; place = p } in ap (λ k. f k place) (ap (λ k. k + 1) is.made) ∙ ap (f (length s.rows + 1)) (sym placed)) in
      let outer = outer_of a.regions e.source in
      let same_tag : tagged (id_of is.places (length s.rows + 1)) outer (is_region r.kind) ≡ tagged (next_id a place) outer (is_region_source e.source) =
      ap (λ x. tagged x outer (is_region r.kind)) (sym id) ∙ ap (tagged (next_id a place) outer) (sym region) in
      record {
        config = is.config;
        places = is.places;
        assigned = at;
        made = ap (λ k. k + 1) is.made ∙ sym (length_push s.rows r);
        made_jobs = is.made_jobs;
        table = AreRows-pushed s.rows r precede precede' is.places table place e joined.each joined.only placed now_free.vacant now_free.within opened number_is is_row;
        free = AreFree-pushed s.rows r precede precede' is.places a.config.rows a.table (slice_set table place (Some e)) (length-set table place (Some e) ∙ joined.long)
            (one_taken table place e now_free ∙ ap (λ k. k + 1) joined.taken) opened is.free;
        nests = are_nests;
        tags = subst (λ x. AreTagged rows' is.places (slice_set table place (Some e)) (slice_set a.regions place (Some x))) same_tag
            (AreTagged-pushed s.rows r precede precede' is.places a.table table a.regions place e (outer_of a.regions e.source) is.table is.tags next.within placed number_is joined.long joined.tags
            (λ q x here. open_there s.rows x.number (joined.only q x here).0) maker no_maker);
        waiting = are_waiting;
        contexts = rw jobs_long contexts;
        room = long ∙ is.room;
        jobs = AreJobs-pushed s.rows r precede precede' is.places s refl is.assigned at of_jobs i a.jobs d its_job below opened none is.jobs;
        cells = is.cells;
        entries = is.entries;
        epoch = is.epoch;
        steady = kept;
      }
