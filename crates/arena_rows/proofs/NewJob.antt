-- One job more, before its root is there: contexts and jobs.
use Rattle.std.proofs.Common.{◌≡◌, ◌≢◌, ℕ, zero, suc, ◌+◌, ◌==◌, ◌<◌, ◌≤◌, pos, List, [], ◌∷◌, ◌++◌, length, Option, Some, None, Bool, true, false, ◌&&◌, refl, sym, ap, ◌∙◌, arith, inl, inr, get_or}
use Rattle.std.proofs.Common.{map, subst, not}
use Rattle.std.specs.Prelude.{count_by, is_some, if◌then◌else◌}
use Rattle.std.proofs.lemmas.Bool.{cases_eq, cases_lt}
use Rattle.std.proofs.lemmas.List.{length_push, get_or-set_same, get_or-set_other, get_or_append_left, get_or_push}
use Rattle.cancel_context.specs.Forest.{Forest, Binding, binding, IsHeld, held_count, with_bound}
use Rattle.tenant_model.specs.declared.rows.Kind.{Kind}
use Rattle.tenant_model.specs.declared.rows.Kind.TheVariants.{Root, Posted, Spawned, Region}
use Rattle.tenant_model.specs.declared.rows.Row.{Row}
use Rattle.tenant_model.specs.declared.works.TheConstants.{MAX_JOBS}
use Rattle.tenant_model.specs.declared.works.Work.{Work}
use Rattle.tenant_model.specs.State.{State, row, job}
use Rattle.tenant_model.specs.Walks.{is_open, is_job_cancelled, value_in}
use Rattle.tenant_model.specs.Linked.{JobsAreThere}
use Rattle.tenant_model.proofs.AttendedSteps.{open_there}
use Rattle.tenant_model.proofs.Changed.{at_number-push_old, at_number-push_new, row-get_or, row-past}
use Rattle.tenant_model.proofs.Stacking.{one_if}
use Rattle.arena_rows.specs.declared.rows.OpenRow.{OpenRow}
use Rattle.arena_rows.specs.declared.rows.CurrentJob.{CurrentJob}
use Rattle.arena_rows.specs.Represents.{Assigned, Owner, Nobody, OfJob, OfRow, OfGroup, IsRowContext, IsGroupContext, IsOwned, AreContexts, open_of, IsJob, AreJobs, IsKept, HasJob}
use Rattle.arena_rows.proofs.Alike.{count_cons}
use Rattle.arena_rows.proofs.Started.{some_none}
use Rattle.arena_rows.specs.Held.{NumbersRise}
use Rattle.arena_rows.proofs.JobPlaces.{count-push_job}

pub nothing_counted : {A : Type 0} (p : A → Bool) (xs : List A) → ((i : ℕ) (d : A) → i < length xs → p (get_or xs i d) ≡ false) → count_by p xs ≡ 0
nothing_counted p [] each = refl
nothing_counted p (x ∷ xs) each =
    let first : p x ≡ false = each 0 x (omega arith) in
    let none : one_if (p x) ≡ 0 = rw first refl in
    omega (arith, count_cons p x xs, none, nothing_counted p xs (λ i d below. each (suc i) d (omega (arith, below))))

abbrev bound_as : Work → Option Binding
bound_as w = Some (record { parent = None; is_asked = is_job_cancelled w; is_orphan = false })

module _ (s : State) (at : Assigned) (w : Work) (c : ℕ) (linked : JobsAreThere s) where
  abbrev pub J : ℕ
  J = length s.jobs + 1

  -- the state with the job
  abbrev pub more : State
  more = record s { jobs = s.jobs ++ w ∷ [] }

  abbrev pub with_job : Assigned
  with_job = record { of_row = at.of_row; of_group = at.of_group; of_job = λ k. if k == J then c else at.of_job k; owner = λ d. if d == c then OfJob J else at.owner d }

  job_old : (k : ℕ) → k ≤ length s.jobs → with_job.of_job k ≡ at.of_job k
  job_old k old = let no : (k == J) ≡ false = grind (arith, old) in rw no refl

  job_new : with_job.of_job J ≡ c
  job_new = let it : (J == J) ≡ true = grind arith in rw it refl

  owner_new : with_job.owner c ≡ OfJob J
  owner_new = let it : (c == c) ≡ true = grind arith in rw it refl

  works_old : (k : ℕ) → k ≤ length s.jobs → job more.jobs k ≡ job s.jobs k
  works_old k old = at_number-push_old s.jobs _ k w old

  works_new : job more.jobs J ≡ w
  works_new = at_number-push_new s.jobs _ J w refl

  job_of : (n : ℕ) → is_open (row s.rows n).phase ≡ true → (row s.rows n).job ≤ length s.jobs
  job_of n opened = let there = open_there s.rows n opened in (linked n there.0 there.1).1

  kept_before : (k : ℕ) → k ≤ length s.jobs → IsKept more.jobs k → IsKept s.jobs k
  kept_before k old is = record { from = is.from; kept = sym (ap (λ (x : Work). x.retired) (works_old k old)) ∙ is.kept }

  kept_still : (k : ℕ) → k ≤ length s.jobs → IsKept s.jobs k → IsKept more.jobs k
  kept_still k old is = record { from = is.from; kept = ap (λ (x : Work). x.retired) (works_old k old) ∙ is.kept }

  module _ (current : ℕ) (table : List (Option OpenRow)) (forest : Forest) (are : AreContexts s current table forest at) (fine : is_job_cancelled w ≡ false) (fresh : w.retired ≡ false)
      (free : binding forest c ≡ None) (inside : c < length forest) (count : held_count (with_bound forest c None) ≡ held_count forest + 1) where
    abbrev forest' : Forest
    forest' = with_bound forest c None

    kept_new : IsKept more.jobs J
    kept_new = record { from = omega arith; kept = ap (λ (x : Work). x.retired) works_new ∙ fresh }

    still : (d : ℕ) (b : Binding) → binding forest d ≡ Some b → (binding forest' d ≡ Some b) × (with_job.owner d ≡ at.owner d)
    still d b is =
        let other : d ≢ c = λ same. some_none b (sym is ∙ ap (binding forest) same ∙ free) in
        let no : (d == c) ≡ false = grind (arith, other) in
        (get_or-set_other forest c d _ None other ∙ is, rw no refl)

    contexts_of_jobs : (m : ℕ) → IsKept more.jobs m → m ≤ length more.jobs → (with_job.owner (with_job.of_job m) ≡ OfJob m) × (binding forest' (with_job.of_job m) ≡ bound_as (job more.jobs m))
    contexts_of_jobs m kept to = elim (cases_eq m J) [
      | inl same ↦
          let here : binding forest' c ≡ bound_as (job more.jobs J) = get_or-set_same forest c _ None inside ∙ sym (ap bound_as works_new ∙ rw fine refl) in
          subst (λ k. (with_job.owner (with_job.of_job k) ≡ OfJob k) × (binding forest' (with_job.of_job k) ≡ bound_as (job more.jobs k))) (sym same)
          (ap with_job.owner job_new ∙ owner_new, ap (binding forest') job_new ∙ here)
      | inr other ↦
          let old : m ≤ length s.jobs = omega (arith, to, other, length_push s.jobs w) in
          let was = are.of_jobs m (kept_before m old kept) old in
          let now = still (at.of_job m) _ was.1 in
          (ap with_job.owner (job_old m old) ∙ now.1 ∙ was.0, ap (binding forest') (job_old m old) ∙ now.0 ∙ ap bound_as (sym (works_old m old)))
    ]

    row_context : (n : ℕ) (k : Kind) → (row s.rows n).job ≤ length s.jobs → IsRowContext s forest at n k → IsRowContext more forest' with_job n k
    row_context n Root old is = is ∙ sym (job_old (row s.rows n).job old)
    row_context n Posted old is = is ∙ sym (job_old (row s.rows n).job old)
    row_context n (Region m) old is = is
    row_context n (Spawned m g) old is = elim is.1 [
      | inl held ↦ let its = still (at.of_row n) _ held.1.2 in (its.1 ∙ is.0, inl (held.0, (held.1.0, held.1.1, its.0)))
      | inr gone ↦ let its = still (at.of_row n) _ gone.1 in (its.1 ∙ is.0, inr (gone.0, its.0))
    ]

    group_context : (n g : ℕ) (o : Option ℕ) → IsGroupContext s forest at n g o → IsGroupContext more forest' with_job n g o
    group_context n g None is = is
    group_context n g (Some d) is = let its = still d _ is.1 in (its.1 ∙ is.0, its.0)

    owned_still : (d : ℕ) (o : Owner) → IsOwned s at d o → IsOwned more with_job d o
    owned_still d Nobody is = is
    owned_still d (OfJob k) is = (job_old k is.2 ∙ is.0, kept_still k is.2 is.1, omega (arith, is.2, length_push s.jobs w))
    owned_still d (OfRow n) is = is
    owned_still d (OfGroup n g) is = is

    owned : (d : ℕ) → IsHeld forest' d → IsOwned more with_job d (with_job.owner d)
    owned d held = elim (cases_eq d c) [
      | inl same ↦
          let new : IsOwned more with_job c (OfJob J) = (job_new, kept_new, omega (arith, length_push s.jobs w)) in
          subst (λ x. IsOwned more with_job x (with_job.owner x)) (sym same) (subst (λ o. IsOwned more with_job c o) (sym owner_new) new)
      | inr other ↦
          let before : IsHeld forest d = ap is_some (sym (get_or-set_other forest c d _ None other)) ∙ held in
          let no : (d == c) ≡ false = grind (arith, other) in
          rw no (owned_still d (at.owner d) (are.owned d before))
    ]

    pub AreContexts-job : AreContexts more (current + 1) table forest' with_job
    AreContexts-job = record {
      of_jobs = contexts_of_jobs;
      of_rows = λ n opened. row_context n (row s.rows n).kind (job_of n opened) (are.of_rows n opened);
      of_groups = λ n g opened few. group_context n g (at.of_group n g) (are.of_groups n g opened few);
      bare = are.bare;
      owned = owned;
      in_table = are.in_table;
      count = omega (arith, count, are.count);
    }

  -- the job among those that are kept
  module _ (jobs : List CurrentJob) (are : AreJobs s at jobs) (it : CurrentJob) (number : it.number ≡ J) (work : it.work ≡ w) (none_opened : it.open_rows ≡ 0) (context : it.context ≡ c)
      (value : it.value ≡ pos 0)
      (fresh : w.retired ≡ false) (root : w.root ≡ length s.rows + 1) (room : length jobs < MAX_JOBS) where
    none_open : open_of s.rows J ≡ 0
    none_open = nothing_counted (λ (r : Row). (r.job == J) && is_open r.phase) s.rows (λ i d below.
        let here : get_or s.rows i d ≡ row s.rows (i + 1) = row-get_or s.rows i d below in
        let old = (linked (i + 1) (omega arith) (omega (arith, below))).1 in
        let no : ((row s.rows (i + 1)).job == J) ≡ false = grind (arith, old) in
        rw (here, no) refl)

    no_value : (n : ℕ) → value_in (row [] n).phase ≡ pos 0
    no_value zero = refl
    no_value (suc n) = refl

    new_job : IsJob s.rows with_job J it
    new_job = record {
      current = ap (λ (x : Work). x.retired) work ∙ fresh;
      value =
          let past : row s.rows (length s.rows + 1) ≡ row [] (length s.rows + 1) = row-past s.rows (length s.rows + 1) (omega arith) in
          let its_root : it.work.root ≡ length s.rows + 1 = ap (λ (x : Work). x.root) work ∙ root in
          value ∙ sym (ap (λ n. value_in (row s.rows n).phase) its_root ∙ ap (λ (r : Row). value_in r.phase) past ∙ no_value (length s.rows + 1));
      opened = none_opened ∙ sym none_open;
      context = context ∙ sym job_new;
    }

    abbrev jobs' : List CurrentJob
    jobs' = jobs ++ it ∷ []

    item_old : (i : ℕ) (d : CurrentJob) → i < length jobs → get_or jobs' i d ≡ get_or jobs i d
    item_old i d low = get_or_append_left jobs (it ∷ []) d i low

    item_new : (i : ℕ) (d : CurrentJob) → i ≡ length jobs → get_or jobs' i d ≡ it
    item_new i d last = get_or_push jobs it d i (sym last)

    -- what holds of each of them holds of all
    by_place : (P : CurrentJob → Type 0) → ((i : ℕ) (d : CurrentJob) → i < length jobs → P (get_or jobs i d)) → P it → (i : ℕ) (d : CurrentJob) → i < length jobs' → P (get_or jobs' i d)
    by_place P old new i d below = elim (cases_lt i (length jobs)) [
      | inl low ↦ subst P (sym (item_old i d low)) (old i d low)
      | inr last ↦ subst P (sym (item_new i d (omega (arith, last, below, length_push jobs it)))) new
    ]

    rises : NumbersRise jobs'
    rises i k d order below =
        let low : i < length jobs = omega (arith, order, below, length_push jobs it) in
        let first : (get_or jobs' i d).number ≡ (get_or jobs i d).number = ap (λ (x : CurrentJob). x.number) (item_old i d low) in
        elim (cases_lt k (length jobs)) [
          | inl both ↦
              let less = are.order i k d order both in
              let second : (get_or jobs' k d).number ≡ (get_or jobs k d).number = ap (λ (x : CurrentJob). x.number) (item_old k d both) in
              omega (arith, less, first, second)
          | inr last ↦
              let known = are.there i d low in
              let second : (get_or jobs' k d).number ≡ J = ap (λ (x : CurrentJob). x.number) (item_new k d (omega (arith, last, below, length_push jobs it))) ∙ number in
              omega (arith, known, first, second)
        ]

    all : (m : ℕ) → IsKept more.jobs m → m ≤ length more.jobs → HasJob jobs' m
    all m kept to = elim (cases_eq m J) [
      | inl same ↦ record { place = length jobs; within = omega (arith, length_push jobs it); number = λ d. ap (λ (x : CurrentJob). x.number) (item_new (length jobs) d refl) ∙ number ∙ sym same }
      | inr other ↦
          let old : m ≤ length s.jobs = omega (arith, to, other, length_push s.jobs w) in
          let has = are.all m (kept_before m old kept) old in
          record { place = has.place; within = omega (arith, has.within, length_push jobs it); number = λ d. ap (λ (x : CurrentJob). x.number) (item_old has.place d has.within) ∙ has.number d }
    ]

    later : (n : ℕ) → is_open (row s.rows n).phase ≡ true → IsKept more.jobs (row s.rows n).job
    later n opened = kept_still (row s.rows n).job (job_of n opened) (are.later n opened)

    pub AreJobs-job : AreJobs more with_job jobs'
    AreJobs-job = record {
      order = rises;
      there = by_place (λ (x : CurrentJob). (1 ≤ x.number) × (x.number ≤ length more.jobs)) (λ i d below. let its = are.there i d below in (its.0, omega (arith, its, length_push s.jobs w)))
          (omega (arith, number), omega (arith, number, length_push s.jobs w));
      works = by_place (λ (x : CurrentJob). job more.jobs x.number ≡ x.work) (λ i d below. works_old (get_or jobs i d).number (are.there i d below).1 ∙ are.works i d below)
          (ap (job more.jobs) number ∙ works_new ∙ sym work);
      each = by_place (λ (x : CurrentJob). IsJob s.rows with_job x.number x) (λ i d below.
          let was = are.each i d below in
          record { current = was.current; value = was.value; opened = was.opened; context = was.context ∙ sym (job_old (get_or jobs i d).number (are.there i d below).1) })
          (subst (λ k. IsJob s.rows with_job k it) (sym number) new_job);
      all = all;
      later = later;
      many =
          let one : one_if (not w.retired) ≡ 1 = rw fresh refl in
          omega (arith, count-push_job (λ (x : Work). not x.retired) s.jobs w, one, are.many, length_push jobs it);
      few = omega (arith, room, length_push jobs it);
    }
