-- What is held stands for the state with one row more that is not open.
use Rattle.std.proofs.Common.{◌≡◌, ℕ, ◌+◌, ◌==◌, ◌&&◌, ◌<◌, ◌≤◌, ◌++◌, pos, List, [], ◌∷◌, length, Option, Some, None, Bool, true, false, refl, sym, ap, ◌∙◌, arith, inl, inr, get_or}
use Rattle.std.specs.Prelude.{slice_index_or, sum_by, count_by, is_some}
use Rattle.std.specs.Option.{option_map}
use Rattle.std.proofs.lemmas.Bool.{cases_eq}
use Rattle.std.proofs.lemmas.List.{length_push}
use Rattle.job_language.specs.declared.instructions.TheConstants.{GROUPS}
use Rattle.ready_pool.specs.Ready.{Ready}
use Rattle.tenant_model.specs.declared.rows.Kind.{Kind}
use Rattle.tenant_model.specs.declared.rows.Kind.TheVariants.{Root, Posted, Spawned, Region}
use Rattle.tenant_model.specs.declared.rows.Phase.{Phase}
use Rattle.tenant_model.specs.declared.rows.Phase.TheVariants.{Unstarted, Live, Done, Dropped, Faulted}
use Rattle.tenant_model.specs.declared.rows.Mark.{Mark}
use Rattle.tenant_model.specs.declared.rows.Row.{Row}
use Rattle.tenant_model.specs.State.{State, row}
use Rattle.tenant_model.specs.Walks.{value_in, is_open, is_unstarted, is_spawned_by, maker_of}
use Rattle.tenant_model.specs.Changes.{add_row}
use Rattle.tenant_model.specs.Linked.{MakersPrecede}
use Rattle.tenant_model.specs.Sound.{IsSteady, IsSettled}
use Rattle.tenant_model.proofs.Changed.{row-push_new, row-push_old}
use Rattle.tenant_model.proofs.AttendedSteps.{open_there}
use Rattle.tenant_model.proofs.Stacking.{one_if, count-push}
use Rattle.tenant_model.proofs.Within.{maker_before}
use Rattle.arena_rows.specs.declared.rows.OpenRow.{OpenRow}
use Rattle.arena_rows.specs.declared.rows.CurrentJob.{CurrentJob}
use Rattle.arena_rows.specs.Held.{Held}
use Rattle.arena_rows.specs.Represents.{at_place, tagged_of, AreRows, AreFree, AreNests, AreTagged, Owner, Nobody, OfJob, OfRow, OfGroup, IsRowContext, IsGroupContext, IsOwned, AreContexts, held_by}
use Rattle.arena_rows.specs.Represents.{IsJob, AreJobs, open_of, Holds}
use Rattle.arena_rows.proofs.BornDropped.{mark_push, settled_push}
use Rattle.arena_rows.proofs.Picking.{unstarted_open}
use Rattle.arena_rows.proofs.Pushing.{nested_old, tagged_old, waiting-none, value_same, open_more}
use Rattle.arena_rows.proofs.Spawned.{used_other}

both_false : (b : Bool) → one_if (b && false) ≡ 0
both_false true = refl
both_false false = refl

not_waiting : (p : Phase) → is_open p ≡ false → is_unstarted p ≡ false
not_waiting Unstarted closed = absurd (grind (arith, closed))
not_waiting (Live slot h) closed = refl
not_waiting (Done v) closed = refl
not_waiting Dropped closed = refl
not_waiting Faulted closed = refl

module _ (s : State) (r : Row) where
  -- what is open was
  pub was : is_open r.phase ≡ false → (x : ℕ) → is_open (row (add_row s r).rows x).phase ≡ true → (1 ≤ x) × (x ≤ length s.rows) × (is_open (row s.rows x).phase ≡ true)
  was closed x opened =
      let there = open_there (add_row s r).rows x opened in
      elim (cases_eq x (length s.rows + 1)) [
        | inl same ↦
            let its : is_open (row (add_row s r).rows x).phase ≡ false = ap (λ (q : Row). is_open q.phase) (row-push_new s.rows x r same) ∙ closed in
            absurd (grind (arith, its, opened))
        | inr other ↦
            let old : x ≤ length s.rows = omega (arith, there, other, length_push s.rows r) in
            (there.0, old, ap (λ (q : Row). is_open q.phase) (sym (row-push_old s.rows x r old)) ∙ opened)
      ]

  pub still : (x : ℕ) → is_open (row s.rows x).phase ≡ true → is_open (row (add_row s r).rows x).phase ≡ true
  still x opened = ap (λ (q : Row). is_open q.phase) (row-push_old s.rows x r (open_there s.rows x opened).1) ∙ opened

-- the table with the new row: nothing but the counters of a group has changed
pub record IsTableAfter (a : Held) (s : State) (is : Holds a s) (r : Row) (table : List (Option OpenRow)) : Type 0 where
  pub long : length table ≡ length a.table
  pub rows : AreRows (s.rows ++ r ∷ []) is.places table
  pub taken : count_by is_some table ≡ count_by is_some a.table
  pub tags : (q : ℕ) → option_map (tagged_of s.rows is.places) (at_place table q) ≡ option_map (tagged_of s.rows is.places) (at_place a.table q)
  pub contexts : (q : ℕ) (x : OpenRow) → at_place table q ≡ Some x →
      (x.context ≡ is.assigned.of_row x.number) × ((h : ℕ) → h < GROUPS → slice_index_or x.group_contexts h None ≡ is.assigned.of_group x.number h)
  pub held : sum_by held_by table ≡ sum_by held_by a.table
  pub joins : (x h : ℕ) → is.assigned.of_group x h ≡ None → is_spawned_by x h r.kind ≡ false

module _ (a : Held) (s : State) (is : Holds a s) (r : Row) (closed : is_open r.phase ≡ false) (none : value_in r.phase ≡ pos 0) (table : List (Option OpenRow)) (after : IsTableAfter a s is r table)
    (kept : IsSteady (add_row s r)) where
  abbrev t : State
  t = add_row s r

  precede : MakersPrecede s.rows
  precede = is.steady.formed.linked.makers

  precede' : MakersPrecede t.rows
  precede' = kept.formed.linked.makers

  started : is_unstarted r.phase ≡ false
  started = not_waiting r.phase closed

  free : AreFree t.rows a.config.rows table
  free = record {
    long = after.long ∙ is.free.long;
    count = let nothing : one_if (is_open r.phase) ≡ 0 = rw closed refl in omega (arith, is.free.count, after.taken, count-push (λ (q : Row). is_open q.phase) s.rows r, nothing);
  }

  nests : AreNests t.rows is.places a.config.slots a.nests
  nests = record {
    long = is.nests.long;
    each = λ x on h live.
        let opened : is_open (row t.rows x).phase ≡ true = rw live refl in
        let old = was s r closed x opened in
        let its = is.nests.each x on h (ap (λ (q : Row). q.phase) (sym (row-push_old s.rows x r old.1)) ∙ live) in
        (its.0, its.1, its.2 ∙ ap Some (sym (nested_old s.rows r precede precede' is.places x old.1)));
    only = λ on h least most.
        let found = is.nests.only on h least most in
        let opened : is_open (row s.rows found.0).phase ≡ true = rw found.1 refl in
        (found.0, ap (λ (q : Row). q.phase) (row-push_old s.rows found.0 r (open_there s.rows found.0 opened).1) ∙ found.1);
  }

  -- tags depend on the numbers of the entries alone
  tags_old : (o : Option OpenRow) (q : ℕ) → at_place table q ≡ o → option_map (tagged_of t.rows is.places) o ≡ option_map (tagged_of s.rows is.places) o
  tags_old None q here = refl
  tags_old (Some x) q here =
      let old = was s r closed x.number (after.rows.only q x here).0 in
      ap Some (tagged_old s.rows r precede precede' is.places x old.0 old.1)

  tags : AreTagged t.rows is.places table a.regions
  tags = record {
    long = is.tags.long ∙ sym after.long;
    each = λ q. is.tags.each q ∙ sym (tags_old (at_place table q) q refl ∙ after.tags q);
  }

  row_context : (x : ℕ) (k : Kind) → 1 ≤ x → x ≤ length s.rows → (row s.rows x).kind ≡ k → IsRowContext s a.contexts is.assigned x k → IsRowContext t a.contexts is.assigned x k
  row_context x Root least old kind its = its ∙ sym (ap (λ (q : Row). is.assigned.of_job q.job) (row-push_old s.rows x r old))
  row_context x Posted least old kind its = its ∙ sym (ap (λ (q : Row). is.assigned.of_job q.job) (row-push_old s.rows x r old))
  row_context x (Region h) least old kind its = its
  row_context x (Spawned h k) least old kind its =
      let before = maker_before s.rows precede x h least old (ap maker_of kind) in
      let same : is_open (row t.rows h).phase ≡ is_open (row s.rows h).phase = ap (λ (q : Row). is_open q.phase) (row-push_old s.rows h r (omega (arith, before, old))) in
      rw same its

  group_context : (x h : ℕ) (o : Option ℕ) → x ≤ length s.rows → is.assigned.of_group x h ≡ o → IsGroupContext s a.contexts is.assigned x h o → IsGroupContext t a.contexts is.assigned x h o
  group_context x h (Some d) old is_o its = let same = mark_push s r precede precede' x h old in rw same its
  group_context x h None old is_o its =
      (used_other s.rows r x h old (after.joins x h is_o) ∙ its.0, ap (λ (k : Mark). k.cancelled) (mark_push s r precede precede' x h old) ∙ its.1)

  owned : (d : ℕ) (o : Owner) → IsOwned s is.assigned d o → IsOwned t is.assigned d o
  owned d Nobody its = its
  owned d (OfJob j) its = its
  owned d (OfRow x) its = (its.0, still s r x its.1, (its.2.0, its.2.1, ap (λ (q : Row). q.kind) (row-push_old s.rows x r (open_there s.rows x its.1).1) ∙ its.2.2))
  owned d (OfGroup x h) its = (its.0, still s r x its.1, its.2)

  contexts : AreContexts t (length a.jobs) table a.contexts is.assigned
  contexts = record {
    of_jobs = is.contexts.of_jobs;
    of_rows = λ x opened.
        let old = was s r closed x opened in
        let same = row-push_old s.rows x r old.1 in
        rw same (row_context x (row s.rows x).kind old.0 old.1 refl (is.contexts.of_rows x old.2));
    of_groups = λ x h opened few. let old = was s r closed x opened in group_context x h (is.assigned.of_group x h) old.1 refl (is.contexts.of_groups x h old.2 few);
    bare = λ x h waits.
        let old = was s r closed x (unstarted_open (row t.rows x).phase waits) in
        is.contexts.bare x h (ap (λ (q : Row). is_unstarted q.phase) (sym (row-push_old s.rows x r old.1)) ∙ waits);
    owned = λ d held. owned d (is.assigned.owner d) (is.contexts.owned d held);
    in_table = after.contexts;
    count = is.contexts.count ∙ ap (λ k. k + length a.jobs) (sym after.held);
  }

  open_same : (j : ℕ) → open_of t.rows j ≡ open_of s.rows j
  open_same j =
      let nothing : one_if ((r.job == j) && is_open r.phase) ≡ 0 = ap (λ b. one_if ((r.job == j) && b)) closed ∙ both_false (r.job == j) in
      omega (arith, open_more s.rows r precede precede' is.places j, nothing)

  its_job : (j : ℕ) (it : CurrentJob) → IsJob s.rows is.assigned j it → IsJob t.rows is.assigned j it
  its_job j it its = record {
    current = its.current;
    value = its.value ∙ sym (value_same s.rows r precede precede' is.places none it.work.root);
    opened = its.opened ∙ sym (open_same j);
    context = its.context;
  }

  jobs : AreJobs t is.assigned a.jobs
  jobs = record {
    order = is.jobs.order;
    there = is.jobs.there;
    works = is.jobs.works;
    all = is.jobs.all;
    many = is.jobs.many;
    each = λ i d below. its_job (get_or a.jobs i d).number (get_or a.jobs i d) (is.jobs.each i d below);
    later = λ x opened. let old = was s r closed x opened in let same = row-push_old s.rows x r old.1 in rw same (is.jobs.later x old.2);
    few = is.jobs.few;
  }

  pub closed_holds : Holds (record a { table = table; made = a.made + 1 }) t
  closed_holds = record {
    config = is.config;
    places = is.places;
    assigned = is.assigned;
    made = ap (λ k. k + 1) is.made ∙ sym (length_push s.rows r);
    made_jobs = is.made_jobs;
    table = after.rows;
    free = free;
    nests = nests;
    tags = tags;
    waiting = is.waiting ∙ ap (λ ws. let q : Ready = record { isolation = a.config.isolation; limit = a.config.rows; slots = a.config.slots; rows = ws } in q)
        (sym (waiting-none s.rows r precede precede' is.places started));
    contexts = contexts;
    room = is.room;
    jobs = jobs;
    cells = is.cells;
    entries = is.entries;
    epoch = is.epoch;
    steady = kept;
  }

  pub closed_settled : IsSettled s → IsSettled t
  closed_settled settled = settled_push s r precede precede' started settled
