-- What is held stands for the state with one job changed.
use Rattle.std.proofs.Common.{◌≡◌, ◌≢◌, ℕ, ◌+◌, ◌-◌, ◌<◌, ◌≤◌, List, [], ◌++◌, length, Option, Some, None, Bool, true, false, refl, sym, ap, ◌∙◌, arith, inl, inr, get_or, map, length-set, subst, not}
use Rattle.std.specs.Prelude.{slice_set, is_some}
use Rattle.std.proofs.lemmas.Bool.{cases_eq}
use Rattle.std.proofs.lemmas.List.{get_or-set_same, get_or-set_other, get_or_default}
use Rattle.cancel_context.specs.Forest.{Forest, Binding, binding, IsHeld, held_count}
use Rattle.tenant_model.specs.declared.rows.Kind.{Kind}
use Rattle.tenant_model.specs.declared.rows.Kind.TheVariants.{Root, Posted, Spawned, Region}
use Rattle.tenant_model.specs.declared.works.Work.{Work}
use Rattle.tenant_model.specs.State.{State, row, job}
use Rattle.tenant_model.specs.Walks.{is_job_cancelled, value_in}
use Rattle.tenant_model.specs.Changes.{on_job}
use Rattle.tenant_model.specs.Sound.{IsSteady}
use Rattle.tenant_model.proofs.Changed.{at_number-with_same, at_number-with_other, length-with}
use Rattle.arena_rows.specs.declared.rows.OpenRow.{OpenRow}
use Rattle.arena_rows.specs.declared.rows.CurrentJob.{CurrentJob}
use Rattle.arena_rows.specs.Held.{Held}
use Rattle.arena_rows.specs.Represents.{Assigned, Owner, Nobody, OfJob, OfRow, OfGroup, IsRowContext, IsGroupContext, IsOwned, AreContexts, IsJob, AreJobs, Holds, IsKept}
use Rattle.arena_rows.specs.HeldChanges.{index_of, with_work, job_changed}
use Rattle.arena_rows.proofs.JobPlaces.{numbers-apart, rise-set, number-set, has-set, held_kept, held_there, count-with_job}
use Rattle.arena_rows.specs.HeldJobs.{IsCurrent}
use Rattle.tenant_model.specs.Asks.{current_jobs}
use Rattle.tenant_model.proofs.Stacking.{one_if}

abbrev pub work_of : CurrentJob → Work
work_of it = it.work

abbrev is_of_job : Owner → Bool
is_of_job (OfJob j) = true
is_of_job o = false

abbrev job_in : Owner → ℕ
job_in (OfJob j) = j
job_in o = 0

abbrev asked_of : Work → Option Binding
asked_of w = Some (record { parent = None; is_asked = is_job_cancelled w; is_orphan = false })

-- the forest with the request of one context as a job's work says
pub record IsAsked (forest forest' : Forest) (c : ℕ) (w : Work) : Type 0 where
  pub long : length forest' ≡ length forest
  pub here : binding forest' c ≡ Some (record { parent = None; is_asked = is_job_cancelled w; is_orphan = false })
  pub others : (x : ℕ) → x ≢ c → binding forest' x ≡ binding forest x
  pub held : held_count forest' ≡ held_count forest

module _ (s : State) (at : Assigned) (j : ℕ) (f : Work → Work) (kept : IsKept s.jobs j) (to : j ≤ length s.jobs) (same_retired : (f (job s.jobs j)).retired ≡ (job s.jobs j).retired) where
  abbrev t : State
  t = on_job s j f

  job_here : job t.jobs j ≡ f (job s.jobs j)
  job_here = at_number-with_same s.jobs _ j (f (job s.jobs j)) kept.from to

  job_there : (m : ℕ) → m ≢ j → job t.jobs m ≡ job s.jobs m
  job_there m other = at_number-with_other s.jobs _ j m (f (job s.jobs j)) kept.from other

  -- no job is retired by it
  retired_there : (m : ℕ) → (job t.jobs m).retired ≡ (job s.jobs m).retired
  retired_there m = elim (cases_eq m j) [
    | inl same ↦ ap (λ k. (job t.jobs k).retired) same ∙ ap (λ (w : Work). w.retired) job_here ∙ same_retired ∙ ap (λ k. (job s.jobs k).retired) (sym same)
    | inr other ↦ ap (λ (w : Work). w.retired) (job_there m other)
  ]

  kept_before : (m : ℕ) → IsKept t.jobs m → IsKept s.jobs m
  kept_before m is = record { from = is.from; kept = sym (retired_there m) ∙ is.kept }

  kept_still : (m : ℕ) → IsKept s.jobs m → IsKept t.jobs m
  kept_still m is = record { from = is.from; kept = retired_there m ∙ is.kept }

  as_many : length t.jobs ≡ length s.jobs
  as_many = length-with s.jobs j (f (job s.jobs j))

  module _ (current : ℕ) (table : List (Option OpenRow)) (forest forest' : Forest) (are : AreContexts s current table forest at) (asked : IsAsked forest forest' (at.of_job j) (f (job s.jobs j))) where
    owner_here : at.owner (at.of_job j) ≡ OfJob j
    owner_here = (are.of_jobs j kept to).0

    apart : (c : ℕ) (o : Owner) → at.owner c ≡ o → is_of_job o ≡ false → c ≢ at.of_job j
    apart c o its elsewhere same =
        let yes : is_of_job o ≡ true = ap is_of_job (sym its ∙ ap at.owner same ∙ owner_here) in
        absurd (let both : false ≡ true = sym elsewhere ∙ yes in grind (arith, both))

    contexts_of_jobs : (m : ℕ) → IsKept t.jobs m → m ≤ length t.jobs → (at.owner (at.of_job m) ≡ OfJob m) × (binding forest' (at.of_job m) ≡ asked_of (job t.jobs m))
    contexts_of_jobs m from within =
        let was = are.of_jobs m (kept_before m from) (omega (arith, within, as_many)) in (
          was.0,
          elim (cases_eq m j) [
            | inl same ↦ subst (λ k. binding forest' (at.of_job k) ≡ asked_of (job t.jobs k)) (sym same) (asked.here ∙ ap asked_of (sym job_here))
            | inr other ↦
                let elsewhere : at.of_job m ≢ at.of_job j = λ same. other (ap job_in (sym was.0 ∙ ap at.owner same ∙ owner_here)) in
                asked.others (at.of_job m) elsewhere ∙ was.1 ∙ ap asked_of (sym (job_there m other))
          ],
        )

    row_context : (n : ℕ) (k : Kind) → IsRowContext s forest at n k → IsRowContext t forest' at n k
    row_context n Root is = is
    row_context n Posted is = is
    row_context n (Region m) is = is
    row_context n (Spawned m g) is = let same = asked.others (at.of_row n) (apart (at.of_row n) (OfRow n) is.0 refl) in rw same is

    group_context : (n g : ℕ) (o : Option ℕ) → IsGroupContext s forest at n g o → IsGroupContext t forest' at n g o
    group_context n g None is = is
    group_context n g (Some c) is = (is.0, asked.others c (apart c (OfGroup n g) is.0 refl) ∙ is.1)

    held_before : (c : ℕ) → IsHeld forest' c → IsHeld forest c
    held_before c held = elim (cases_eq c (at.of_job j)) [
      | inl same ↦ let was : binding forest c ≡ asked_of (job s.jobs j) = ap (binding forest) same ∙ (are.of_jobs j kept to).1 in rw was refl
      | inr other ↦ ap is_some (sym (asked.others c other)) ∙ held
    ]

    owned_still : (c : ℕ) (o : Owner) → IsOwned s at c o → IsOwned t at c o
    owned_still c Nobody is = is
    owned_still c (OfJob m) is = (is.0, kept_still m is.1, omega (arith, is.2, as_many))
    owned_still c (OfRow n) is = is
    owned_still c (OfGroup n g) is = is

    pub AreContexts-asked : AreContexts t current table forest' at
    AreContexts-asked = record {
      of_jobs = contexts_of_jobs;
      of_rows = λ n opened. row_context n (row s.rows n).kind (are.of_rows n opened);
      of_groups = λ n g opened few. group_context n g (at.of_group n g) (are.of_groups n g opened few);
      bare = are.bare;
      owned = λ c held. owned_still c (at.owner c) (are.owned c (held_before c held));
      in_table = are.in_table;
      count = asked.held ∙ are.count;
    }

  module _ (jobs : List CurrentJob) (are : AreJobs s at jobs) (i : ℕ) (d : CurrentJob) (number : (c : CurrentJob) → j ≡ (get_or jobs i c).number) (below : i < length jobs)
      (same_root : (f (job s.jobs j)).root ≡ (job s.jobs j).root) where
    abbrev it : CurrentJob
    it = get_or jobs i d

    abbrev changed : List CurrentJob
    changed = slice_set jobs i (with_work f it)

    same_number : (c : CurrentJob) → (with_work f it).number ≡ (get_or jobs i c).number
    same_number c = ap (λ (x : CurrentJob). x.number) (get_or_default jobs i d c below)

    work_here : job s.jobs j ≡ it.work
    work_here = ap (job s.jobs) (number d) ∙ are.works i d below

    is_it : (k : ℕ) (c : CurrentJob) → k ≡ i → get_or changed k c ≡ with_work f it
    is_it k c same = ap (λ n. get_or changed n c) same ∙ get_or-set_same jobs i (with_work f it) c below

    is_other : (k : ℕ) (c : CurrentJob) → k ≢ i → get_or changed k c ≡ get_or jobs k c
    is_other k c other = get_or-set_other jobs i k (with_work f it) c other

    works : (k : ℕ) (c : CurrentJob) → k < length jobs → job t.jobs (get_or changed k c).number ≡ (get_or changed k c).work
    works k c within = elim (cases_eq k i) [
      | inl same ↦
          let item = is_it k c same in
          ap (λ (x : CurrentJob). job t.jobs x.number) item ∙ ap (job t.jobs) (sym (number d)) ∙ job_here ∙ ap f work_here ∙ sym (ap (λ (x : CurrentJob). x.work) item)
      | inr other ↦
          let item = is_other k c other in
          let apart : (get_or jobs k c).number ≢ j = λ own. numbers-apart jobs k i c are.order within below other (own ∙ number c) in
          ap (λ (x : CurrentJob). job t.jobs x.number) item ∙ job_there (get_or jobs k c).number apart ∙ are.works k c within ∙ sym (ap (λ (x : CurrentJob). x.work) item)
    ]

    job_at : (k : ℕ) (c : CurrentJob) → k < length jobs → IsJob s.rows at (get_or jobs k c).number (get_or changed k c)
    job_at k c within = elim (cases_eq k i) [
      | inl same ↦
          let item = is_it k c same in
          let before : get_or jobs k c ≡ it = ap (λ n. get_or jobs n c) same ∙ get_or_default jobs i c d below in
          let was : IsJob s.rows at (get_or jobs k c).number it = subst (IsJob s.rows at (get_or jobs k c).number) before (are.each k c within) in
          let root : (f it.work).root ≡ it.work.root = rw work_here at same_root in
          let retired_still : (f it.work).retired ≡ it.work.retired = rw work_here at same_retired in
          rw item (record {
            current = retired_still ∙ was.current;
            value = was.value ∙ sym (ap (λ r. value_in (row s.rows r).phase) root);
            opened = was.opened;
            context = was.context;
          })
      | inr other ↦ rw (is_other k c other) (are.each k c within)
    ]

    as_many_kept : current_jobs t ≡ current_jobs s
    as_many_kept =
        let change = count-with_job (λ (w : Work). not w.retired) s.jobs j (f (job s.jobs j)) kept.from to in
        let same : one_if (not (f (job s.jobs j)).retired) ≡ one_if (not (job s.jobs j).retired) = ap (λ b. one_if (not b)) same_retired in
        omega (arith, change, same)

    pub AreJobs-changed : AreJobs t at changed
    AreJobs-changed =
        let long = length-set jobs i (with_work f it) in
        record {
          order = rise-set jobs i (with_work f it) below same_number are.order;
          there = λ k c within.
              let same = number-set jobs i (with_work f it) below same_number k c in
              let its = are.there k c (omega (arith, within, long)) in
              (omega (arith, same, its), omega (arith, same, its, as_many));
          works = λ k c within. works k c (omega (arith, within, long));
          each = λ k c within. subst (λ n. IsJob s.rows at n (get_or changed k c)) (sym (number-set jobs i (with_work f it) below same_number k c)) (job_at k c (omega (arith, within, long)));
          all = λ m kept_m to_m. has-set jobs i (with_work f it) below same_number m (are.all m (kept_before m kept_m) (omega (arith, to_m, as_many)));
          later = λ n opened. kept_still (row s.rows n).job (are.later n opened);
          many = as_many_kept ∙ are.many ∙ sym long;
          few = omega (arith, are.few, long);
        }

-- What is held with one job's work changed, and the request of its context as the work says.
pub job_changed_holds : (a : Held) (s : State) (is : Holds a s) (j : ℕ) (f : Work → Work) (d : CurrentJob) (forest : Forest) → IsCurrent a.jobs j →
    IsAsked a.contexts forest (is.assigned.of_job j) (f (job s.jobs j)) →
    (f (job s.jobs j)).root ≡ (job s.jobs j).root → (f (job s.jobs j)).retired ≡ (job s.jobs j).retired → IsSteady (on_job s j f) →
    Holds (record (job_changed a j f d) { contexts = forest }) (on_job s j f)
job_changed_holds a s is j f d forest current asked root retired steady =
    let kept = held_kept a s is j current in
    let to = (held_there a s is j current).1 in
    let jobs_long : length (slice_set a.jobs (index_of a j) (with_work f (get_or a.jobs (index_of a j) d))) ≡ length a.jobs = length-set a.jobs (index_of a j) _ in
    record {
      config = is.config;
      places = is.places;
      assigned = is.assigned;
      made = is.made;
      made_jobs = is.made_jobs ∙ sym (length-with s.jobs j (f (job s.jobs j)));
      table = is.table;
      free = is.free;
      nests = is.nests;
      tags = is.tags;
      waiting = is.waiting;
      contexts = rw jobs_long (AreContexts-asked s is.assigned j f kept to retired (length a.jobs) a.table a.contexts forest is.contexts asked);
      room = asked.long ∙ is.room;
      jobs = AreJobs-changed s is.assigned j f kept to retired a.jobs is.jobs (index_of a j) d (λ c. sym (current.number c)) current.within root;
      cells = is.cells;
      entries = is.entries;
      epoch = is.epoch;
      steady = steady;
    }
