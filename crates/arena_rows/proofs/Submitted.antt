-- What is held stands for the state with one job more, and its root.
use Rattle.std.proofs.Common.{◌≡◌, ℕ, ◌+◌, ◌==◌, ◌<◌, List, [], ◌∷◌, ◌++◌, length, Option, Some, None, true, false, refl, sym, ap, ◌∙◌, arith, get_or, map, length-set, pos, subst}
use Rattle.std.specs.Prelude.{slice_set}
use Rattle.std.proofs.lemmas.List.{length_push, get_or_push, set_at}
use Rattle.job_language.specs.declared.jobs.Job.{Job}
use Rattle.region_tag.specs.declared.row_id.RowId.{RowId}
use Rattle.region_tag.specs.Region.{tagged}
use Rattle.ready_pool.specs.Ready.{Ready}
use Rattle.nest_stack.specs.declared.stack.Nested.{Nested}
use Rattle.cancel_context.specs.Forest.{Forest, binding, held_count, with_bound}
use Rattle.tenant_model.specs.declared.rows.Kind.TheVariants as kind
use Rattle.tenant_model.specs.declared.rows.Phase.{Phase}
use Rattle.tenant_model.specs.declared.rows.Row.{Row}
use Rattle.tenant_model.specs.declared.works.TheConstants.{MAX_JOBS}
use Rattle.tenant_model.specs.declared.works.Work.{Work}
use Rattle.tenant_model.specs.State.{State, row}
use Rattle.tenant_model.specs.Walks.{is_open, value_in}
use Rattle.tenant_model.specs.Changes.{new_row}
use Rattle.tenant_model.specs.Asks.{new_job, add_job}
use Rattle.tenant_model.specs.Linked.{MakersPrecede}
use Rattle.tenant_model.specs.Sound.{IsSteady}
use Rattle.tenant_model.proofs.AttendedSteps.{open_there}
use Rattle.tenant_model.proofs.Changed.{row-push_new}
use Rattle.arena_rows.specs.declared.rows.OpenRow.{OpenRow}
use Rattle.arena_rows.specs.declared.rows.CurrentJob.{CurrentJob}
use Rattle.arena_rows.specs.declared.rows.Stage.{Stage}
use Rattle.arena_rows.specs.Held.{Held}
use Rattle.arena_rows.specs.Represents.{id_of, source_of, stage_of, waiting, waiting_of, IsRow, AreRows, AreFree, AreNests, AreTagged, Assigned, IsRowContext, AreContexts, AreJobs, Holds, IsFree}
use Rattle.arena_rows.specs.HeldChanges.{next_id, new_current, root_frame, root_entry, job_begun, with_open}
use Rattle.arena_rows.proofs.Made.{no_group}
use Rattle.arena_rows.proofs.FreePlaces.{one_taken}
use Rattle.arena_rows.proofs.Making.{IsNext, is_next}
use Rattle.arena_rows.proofs.NewJob.{with_job, AreContexts-job, AreJobs-job}
use Rattle.arena_rows.proofs.Posted.{no_contexts}
use Rattle.arena_rows.proofs.Pushing.{IsRow-pushed, AreRows-pushed, AreFree-pushed, AreTagged-pushed, AreJobs-pushed}
use Rattle.arena_rows.proofs.PushedRows.{IsGroup-new}
use Rattle.arena_rows.proofs.Spawned.{joined, AreContexts-joined}

module _ (a : Held) (s : State) (is : Holds a s) (place : ℕ) (placed : is.places (length s.rows + 1) ≡ place) (j : Job) (p : Phase) (st : Stage) (c : ℕ) (staged : st ≡ stage_of (root_frame j) p)
    (opened : is_open p ≡ true) (none : value_in p ≡ pos 0) (kept : IsSteady (add_job s j p))
    (vacant : IsFree a.table place) (room : length a.jobs < MAX_JOBS) (free : binding a.contexts c ≡ None) (inside : c < length a.contexts)
    (count : held_count (with_bound a.contexts c None) ≡ held_count a.contexts + 1) where
  abbrev pub N : ℕ
  N = length s.rows + 1

  abbrev pub r : Row
  r = new_row kind.Root (length s.jobs + 1) None (root_frame j) p

  abbrev pub rows' : List Row
  rows' = s.rows ++ r ∷ []

  abbrev e : OpenRow
  e = root_entry a st c

  abbrev w : Work
  w = new_job s j

  abbrev s1 : State
  s1 = record s { jobs = s.jobs ++ w ∷ [] }

  abbrev pub forest : Forest
  forest = with_bound a.contexts c None

  precede : MakersPrecede s.rows
  precede = is.steady.formed.linked.makers

  precede' : MakersPrecede rows'
  precede' = kept.formed.linked.makers

  next : IsNext a place
  next = is_next a s is place vacant

  here : row rows' N ≡ r
  here = row-push_new s.rows N r refl

  number : e.number ≡ N
  number = ap (λ k. k + 1) is.made

  its_job : e.job ≡ r.job
  its_job = ap (λ k. k + 1) is.made_jobs

  is_row : IsRow rows' is.places N e
  is_row = record {
    number = number;
    source = sym (ap (λ (q : Row). source_of is.places q.kind) here);
    job = its_job ∙ sym (ap (λ (q : Row). q.job) here);
    made_on = sym (ap (λ (q : Row). q.made_on) here);
    stage = staged ∙ sym (ap (λ (q : Row). stage_of q.frame q.phase) here);
    groups = λ g few. rw (no_group g) (IsGroup-new s.rows r precede precede' g);
    all_groups = refl;
    all_contexts = refl;
  }

  abbrev table : List (Option OpenRow)
  table = slice_set a.table place (Some e)

  rows_are : AreRows rows' is.places table
  rows_are = AreRows-pushed s.rows r precede precede' is.places a.table place e
      (λ m opened_m.
      let its = is.table.each m opened_m in
      let there = open_there s.rows m opened_m in
      record { within = its.within; entry = its.entry; there = its.there; is = IsRow-pushed s.rows r precede precede' is.places m its.entry there.1 (λ g few. refl) its.is })
      is.table.only placed next.vacant next.within opened number is_row

  free_are : AreFree rows' a.config.rows table
  free_are = AreFree-pushed s.rows r precede precede' is.places a.config.rows a.table table (length-set a.table place (Some e)) (one_taken a.table place e vacant) opened is.free

  id : next_id a place ≡ id_of is.places N
  id = let f : ℕ → ℕ → RowId = λ k q. record { number = k; place = q } in ap (λ k. f k place) number ∙ ap (f N) (sym placed)

  tags_are : AreTagged rows' is.places table (job_begun a place j st c).regions
  tags_are = subst (λ x. AreTagged rows' is.places table (slice_set a.regions place (Some x))) (ap (λ x. tagged x None false) (sym id))
      (AreTagged-pushed s.rows r precede precede' is.places a.table a.table a.regions place e None is.table is.tags next.within placed number refl (λ q. refl)
      (λ q x there. open_there s.rows x.number (is.table.only q x there).0) tt (λ nothing. refl))

  contexts1 : AreContexts s1 (length a.jobs + 1) a.table forest (with_job s is.assigned w c is.steady.formed.linked.jobs)
  contexts1 = AreContexts-job s is.assigned w c is.steady.formed.linked.jobs (length a.jobs) a.table a.contexts is.contexts refl refl free inside count

  abbrev at : Assigned
  at = joined s1 (length a.jobs + 1) a.table forest (with_job s is.assigned w c is.steady.formed.linked.jobs) c place r e precede precede' contexts1 opened refl (λ m h. refl)

  contexts_are : AreContexts (add_job s j p) (length a.jobs + 1) table forest at
  contexts_are =
      let it : (N == N) ≡ true = grind arith in
      let job : ((length s.jobs + 1) == (length s.jobs + 1)) ≡ true = grind arith in
      let its : at.of_row N ≡ at.of_job (row rows' N).job = rw (it, here, job) refl in
      let new_context : IsRowContext (add_job s j p) forest at N (row rows' N).kind = subst (λ k. IsRowContext (add_job s j p) forest at N k) (sym (ap (λ (q : Row). q.kind) here)) its in
      AreContexts-joined s1 (length a.jobs + 1) a.table forest (with_job s is.assigned w c is.steady.formed.linked.jobs) c place r e precede precede' contexts1 opened refl (λ m h. refl) new_context
      (λ q x there. (open_there s.rows x.number (is.table.only q x there).0).1) refl number no_contexts refl next.within next.vacant

  abbrev unopened : CurrentJob
  unopened = new_current a j c 0

  jobs_are : AreJobs (add_job s j p) at (job_begun a place j st c).jobs
  jobs_are =
      let linked = is.steady.formed.linked.jobs in
      let f : ℕ → Work = λ k. record { program = j.program; fuel = j.fuel; root = k; cancelled = false; fault = None; retired = false } in
      let work : unopened.work ≡ w = ap f number in
      let before : AreJobs s1 (with_job s is.assigned w c linked) (a.jobs ++ unopened ∷ []) = AreJobs-job s is.assigned w c linked a.jobs is.jobs unopened its_job work refl refl refl refl refl room in
      let below : length a.jobs < length (a.jobs ++ unopened ∷ []) = omega (arith, length_push a.jobs unopened) in
      let after = AreJobs-pushed s.rows r precede precede' is.places s1 refl (with_job s is.assigned w c linked) at (λ k. refl) (length a.jobs) (a.jobs ++ unopened ∷ []) unopened
      (λ d. sym its_job ∙ sym (ap (λ (x : CurrentJob). x.number) (get_or_push a.jobs unopened d (length a.jobs) refl))) below opened none before in
      let last : get_or (a.jobs ++ unopened ∷ []) (length a.jobs) unopened ≡ unopened = get_or_push a.jobs unopened unopened (length a.jobs) refl in
      let set : slice_set (a.jobs ++ unopened ∷ []) (length a.jobs) (new_current a j c 1) ≡ a.jobs ++ new_current a j c 1 ∷ [] = set_at a.jobs unopened [] (new_current a j c 1) (length a.jobs) refl in
      subst (AreJobs (add_job s j p) at) (ap (λ x. slice_set (a.jobs ++ unopened ∷ []) (length a.jobs) (with_open x)) last ∙ set) after

  pub begun_holds : (pool : Ready) (nests : List (List Nested)) → AreNests rows' is.places a.config.slots nests →
      pool ≡ record { isolation = a.config.isolation; limit = a.config.rows; slots = a.config.slots; rows = map (waiting_of rows' is.places) (waiting rows') } →
      Holds (record (job_begun a place j st c) { pool = pool; nests = nests }) (add_job s j p)
  begun_holds pool nests are_nests are_waiting =
      let long : length (a.jobs ++ new_current a j c 1 ∷ []) ≡ length a.jobs + 1 = length_push a.jobs (new_current a j c 1) in
      record {
        config = is.config;
        places = is.places;
        assigned = at;
        made = ap (λ k. k + 1) is.made ∙ sym (length_push s.rows r);
        made_jobs = its_job ∙ sym (length_push s.jobs w);
        table = rows_are;
        free = free_are;
        nests = are_nests;
        tags = tags_are;
        waiting = are_waiting;
        contexts = rw long contexts_are;
        room = length-set a.contexts c _ ∙ is.room;
        jobs = jobs_are;
        cells = is.cells;
        entries = is.entries;
        epoch = is.epoch;
        steady = kept;
      }
