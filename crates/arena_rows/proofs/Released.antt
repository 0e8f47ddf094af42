-- One job released, where none of its rows is open.
use Rattle.std.proofs.Common.{◌≡◌, ◌≢◌, ◌||◌, ℕ, zero, suc, ◌+◌, ◌-◌, ◌<◌, ◌≤◌, List, length, Option, Some, None, Bool, true, false, not, refl, sym, ap, ◌∙◌, arith, inl, inr, get_or, subst}
use Rattle.std.specs.Prelude.{count_by, is_some, IfSome, remove}
use Rattle.std.specs.List.{list_any}
use Rattle.std.proofs.lemmas.Bool.{cases_eq, cases_lt}
use Rattle.std.proofs.lemmas.List.Edits.{length-remove, get_or-remove_below, get_or-remove_above}
use Rattle.cancel_context.specs.Forest.{Forest, Binding, binding, parent, IsHeld, held_count, without}
use Rattle.cancel_context.proofs.Released.{binding-without, binding-without_other, length-without}
use Rattle.tenant_model.specs.declared.rows.Kind.{Kind}
use Rattle.tenant_model.specs.declared.rows.Kind.TheVariants.{Root, Posted, Spawned, Region}
use Rattle.tenant_model.specs.declared.works.Work.{Work}
use Rattle.tenant_model.specs.State.{State, row, job}
use Rattle.tenant_model.specs.Walks.{maker_of, is_open, is_job_cancelled, is_group_cancelled, chain}
use Rattle.tenant_model.specs.Changes.{on_job, entry}
use Rattle.tenant_model.specs.Asks.{has_outcome, retired_work, current_jobs}
use Rattle.tenant_model.specs.Sound.{IsSettled}
use Rattle.tenant_model.proofs.AttendedSteps.{open_there}
use Rattle.tenant_model.proofs.Changed.{at_number-with_same, at_number-with_other, length-with}
use Rattle.tenant_model.proofs.LaterSteps.{outcome_ended}
use Rattle.tenant_model.proofs.Stacking.{one_if}
use Rattle.tenant_model.proofs.Steady.{steady_job, steady_entries}
use Rattle.arena_rows.specs.declared.rows.CurrentJob.{CurrentJob}
use Rattle.arena_rows.specs.Held.{Held, NumbersRise}
use Rattle.arena_rows.specs.HeldChanges.{index_of, no_job}
use Rattle.arena_rows.specs.HeldJobs.{IsCurrent}
use Rattle.arena_rows.specs.Represents.{Owner, Nobody, OfJob, OfRow, OfGroup, IsKept, IsRowContext, IsGroupContext, IsOwned, IsJob, HasJob, AreJobs, AreContexts, Holds, Rests}
use Rattle.arena_rows.specs.Retiring.{job_released}
use Rattle.arena_rows.proofs.Contexts.{live_open}
use Rattle.arena_rows.proofs.Ends.{is_job, is_group}
use Rattle.arena_rows.proofs.JobPlaces.{numbers-apart, count-with_job, held_there, held_work, held_is, held_kept}
use Rattle.arena_rows.proofs.Left.{kept_in}
use Rattle.arena_rows.proofs.Retired.{job_in}
use Rattle.arena_rows.proofs.Started.{some_none, some_is}
use Rattle.arena_rows.proofs.Starts.{settled_entry}

module _ (a : Held) (s : State) (is : Holds a s) (j : ℕ) (current : IsCurrent a.jobs j) (over : has_outcome s.rows j ≡ true) where
  abbrev c : ℕ
  c = is.assigned.of_job j

  abbrev t : State
  t = on_job s j retired_work

  kept : IsKept s.jobs j
  kept = held_kept a s is j current

  there : (1 ≤ j) × (j ≤ length s.jobs)
  there = held_there a s is j current

  its_context : (is.assigned.owner c ≡ OfJob j) × (binding a.contexts c ≡ Some (record { parent = None; is_asked = is_job_cancelled (job s.jobs j); is_orphan = false }))
  its_context = is.contexts.of_jobs j kept there.1

  pub context_told : (d : CurrentJob) → (get_or a.jobs (index_of a j) d).context ≡ c
  context_told d = (held_is a s is j current d).context

  pub context_held : IsHeld a.contexts c
  context_held = let here = its_context.1 in rw here refl

  -- No open row is of the job,
  none_open : (n : ℕ) → is_open (row s.rows n).phase ≡ true → (row s.rows n).job ≢ j
  none_open n opened own = let closed = outcome_ended s j over n own in grind (arith, closed, opened)

  not_owned : (d : ℕ) (o : Owner) → is.assigned.owner d ≡ o → (o ≡ OfJob j → ⊥) → d ≢ c
  not_owned d o owner other same = other (sym owner ∙ ap is.assigned.owner same ∙ its_context.0)

  of_job_apart : (m : ℕ) → is.assigned.owner (is.assigned.of_job m) ≡ OfJob m → m ≢ j → is.assigned.of_job m ≢ c
  of_job_apart m owner other = not_owned (is.assigned.of_job m) (OfJob m) owner (λ same. other (ap job_in same))

  job_context_apart : (n : ℕ) → is_open (row s.rows n).phase ≡ true → is.assigned.of_row n ≡ is.assigned.of_job (row s.rows n).job → is.assigned.of_row n ≢ c
  job_context_apart n opened context same =
      let place = open_there s.rows n opened in
      let owner = (is.contexts.of_jobs (row s.rows n).job (is.jobs.later n opened) (is.steady.formed.linked.jobs n place.0 place.1).1).0 in
      of_job_apart (row s.rows n).job owner (none_open n opened) (sym context ∙ same)

  -- so no open row has its context,
  by_kind : (n : ℕ) (k : Kind) → (row s.rows n).kind ≡ k → ((m : ℕ) → m < n → is_open (row s.rows m).phase ≡ true → is.assigned.of_row m ≢ c) → is_open (row s.rows n).phase ≡ true →
      is.assigned.of_row n ≢ c
  by_kind n Root kind ih opened = let its : IsRowContext s a.contexts is.assigned n Root = rw kind at (is.contexts.of_rows n opened) in job_context_apart n opened its
  by_kind n Posted kind ih opened = let its : IsRowContext s a.contexts is.assigned n Posted = rw kind at (is.contexts.of_rows n opened) in job_context_apart n opened its
  by_kind n (Spawned m g) kind ih opened =
      let its : IsRowContext s a.contexts is.assigned n (Spawned m g) = rw kind at (is.contexts.of_rows n opened) in
      not_owned (is.assigned.of_row n) (OfRow n) its.0 (λ same. grind (arith, ap is_job same))
  by_kind n (Region m) kind ih opened =
      let its : is.assigned.of_row n ≡ is.assigned.of_row m = let all : IsRowContext s a.contexts is.assigned n (Region m) = rw kind at (is.contexts.of_rows n opened) in all in
      let place = open_there s.rows n opened in
      let made : maker_of (row s.rows n).kind ≡ Some m = rw kind refl in
      let before : (1 ≤ m) × (m < n) = let all : IfSome (Some m) (λ x. (1 ≤ x) × (x < n)) = rw made at (is.steady.formed.linked.makers n place.0 place.1) in all in
      let live = live_open (row s.rows n).phase opened (is.steady.formed.on_makers.started n m kind) in
      let maker : is_open (row s.rows m).phase ≡ true = rw (is.steady.formed.on_makers.below n m live.0 live.1 kind live.2) refl in
      λ same. ih m before.1 maker (sym its ∙ same)

  go : (k n : ℕ) → n ≤ k → is_open (row s.rows n).phase ≡ true → is.assigned.of_row n ≢ c
  go zero n enough opened = let place = open_there s.rows n opened in absurd (omega (arith, enough, place))
  go (suc k) n enough opened = by_kind n (row s.rows n).kind refl (λ m before opened_m. go k m (omega (arith, before, enough)) opened_m) opened

  row_apart : (n : ℕ) → is_open (row s.rows n).phase ≡ true → is.assigned.of_row n ≢ c
  row_apart n opened = go n n (omega arith) opened

  parent_at : (d : ℕ) (b : Binding) (o : Option ℕ) → binding a.contexts d ≡ Some b → b.parent ≡ o → parent a.contexts d ≡ o
  parent_at d b o here same = rw here same

  -- and nothing is bound to it.
  by_owner : (d : ℕ) (o : Owner) → IsOwned s is.assigned d o → parent a.contexts d ≡ Some c → ⊥
  by_owner d Nobody owned bound_to = owned
  by_owner d (OfJob m) owned bound_to =
      let here = ap (binding a.contexts) (sym owned.0) ∙ (is.contexts.of_jobs m owned.1 owned.2).1 in
      some_none c (sym bound_to ∙ parent_at d _ None here refl)
  by_owner d (OfRow n) owned bound_to =
      let m = owned.2.0 in
      let g = owned.2.1 in
      let its : IsRowContext s a.contexts is.assigned n (Spawned m g) = rw owned.2.2 at (is.contexts.of_rows n owned.1) in
      elim its.1 [
        | inl held ↦
            let gc = held.1.0 in
            let group : IsGroupContext s a.contexts is.assigned m g (Some gc) = rw held.1.1 at (is.contexts.of_groups m g held.0 (is.steady.stay.groups n m g owned.2.2)) in
            let here = ap (binding a.contexts) (sym owned.0) ∙ held.1.2 in
            let same : gc ≡ c = some_is gc c (sym (parent_at d _ (Some gc) here refl) ∙ bound_to) in
            not_owned gc (OfGroup m g) group.0 (λ its. grind (arith, ap is_job its)) same
        | inr gone ↦
            let here = ap (binding a.contexts) (sym owned.0) ∙ gone.1 in
            some_none c (sym bound_to ∙ parent_at d _ None here refl)
      ]
  by_owner d (OfGroup n g) owned bound_to =
      let group : IsGroupContext s a.contexts is.assigned n g (Some d) = rw owned.0 at (is.contexts.of_groups n g owned.1 owned.2) in
      let same : is.assigned.of_row n ≡ c = some_is (is.assigned.of_row n) c (sym (parent_at d _ (Some (is.assigned.of_row n)) group.1 refl) ∙ bound_to) in
      row_apart n owned.1 same

  bound_held : (d : ℕ) (o : Option Binding) → binding a.contexts d ≡ o → parent a.contexts d ≡ Some c → IsHeld a.contexts d
  bound_held d None here bound_to = let none : parent a.contexts d ≡ None = rw here refl in absurd (some_none c (sym bound_to ∙ none))
  bound_held d (Some b) here bound_to = rw here refl

  pub nothing_bound : (d : ℕ) → parent a.contexts d ≡ Some c → ⊥
  nothing_bound d bound_to = by_owner d (is.assigned.owner d) (is.contexts.owned d (bound_held d (binding a.contexts d) refl bound_to)) bound_to

  abbrev forest : Forest
  forest = without a.contexts c

  others : (d : ℕ) → d ≢ c → binding forest d ≡ binding a.contexts d
  others d other = binding-without_other a.contexts c d other ∙ kept_in c (binding a.contexts d) (nothing_bound d)

  gone : binding forest c ≡ None
  gone = binding-without a.contexts c context_held

  -- the state has one job fewer
  as_many : length t.jobs ≡ length s.jobs
  as_many = length-with s.jobs j (retired_work (job s.jobs j))

  job_here : job t.jobs j ≡ retired_work (job s.jobs j)
  job_here = at_number-with_same s.jobs _ j (retired_work (job s.jobs j)) there.0 there.1

  job_there : (m : ℕ) → m ≢ j → job t.jobs m ≡ job s.jobs m
  job_there m other = at_number-with_other s.jobs _ j m (retired_work (job s.jobs j)) there.0 other

  not_it : (m : ℕ) → IsKept t.jobs m → m ≢ j
  not_it m is_kept same =
      let retired : (job t.jobs m).retired ≡ true = ap (λ k. (job t.jobs k).retired) same ∙ ap (λ (w : Work). w.retired) job_here in
      let stays = is_kept.kept in
      grind (arith, retired, stays)

  kept_before : (m : ℕ) → IsKept t.jobs m → IsKept s.jobs m
  kept_before m is_kept = record { from = is_kept.from; kept = sym (ap (λ (w : Work). w.retired) (job_there m (not_it m is_kept))) ∙ is_kept.kept }

  kept_still : (m : ℕ) → m ≢ j → IsKept s.jobs m → IsKept t.jobs m
  kept_still m other is_kept = record { from = is_kept.from; kept = ap (λ (w : Work). w.retired) (job_there m other) ∙ is_kept.kept }

  row_context : (n : ℕ) (k : Kind) → IsRowContext s a.contexts is.assigned n k → IsRowContext t forest is.assigned n k
  row_context n Root its = its
  row_context n Posted its = its
  row_context n (Region m) its = its
  row_context n (Spawned m g) its = let same = others (is.assigned.of_row n) (not_owned (is.assigned.of_row n) (OfRow n) its.0 (λ own. grind (arith, ap is_job own))) in rw same its

  group_context : (n g : ℕ) (o : Option ℕ) → IsGroupContext s a.contexts is.assigned n g o → IsGroupContext t forest is.assigned n g o
  group_context n g None its = its
  group_context n g (Some d) its = (its.0, others d (not_owned d (OfGroup n g) its.0 (λ own. grind (arith, ap is_job own))) ∙ its.1)

  owned_still : (d : ℕ) (o : Owner) → d ≢ c → IsOwned s is.assigned d o → IsOwned t is.assigned d o
  owned_still d Nobody other its = its
  owned_still d (OfJob m) other its =
      let apart : m ≢ j = λ same. other (sym its.0 ∙ ap is.assigned.of_job same) in
      (its.0, kept_still m apart its.1, omega (arith, its.2, as_many))
  owned_still d (OfRow n) other its = its
  owned_still d (OfGroup n g) other its = its

  owned : (d : ℕ) → IsHeld forest d → IsOwned t is.assigned d (is.assigned.owner d)
  owned d held =
      let other : d ≢ c = λ same. let none : is_some (binding forest d) ≡ false = ap (λ k. is_some (binding forest k)) same ∙ ap is_some gone in grind (arith, none, held) in
      owned_still d (is.assigned.owner d) other (is.contexts.owned d (ap is_some (sym (others d other)) ∙ held))

  abbrev i : ℕ
  i = index_of a j

  abbrev jobs' : List CurrentJob
  jobs' = remove a.jobs i

  long : length jobs' + 1 ≡ length a.jobs
  long = length-remove a.jobs i current.within

  AreContexts-released : held_count forest + 1 ≡ held_count a.contexts → AreContexts t (length jobs') a.table forest is.assigned
  AreContexts-released count = record {
    of_jobs = λ m is_kept to.
        let other = not_it m is_kept in
        let was = is.contexts.of_jobs m (kept_before m is_kept) (omega (arith, to, as_many)) in (
          was.0,
          others (is.assigned.of_job m) (of_job_apart m was.0 other) ∙ was.1 ∙
              ap (λ (w : Work). Some (record { parent = None; is_asked = is_job_cancelled w; is_orphan = false })) (sym (job_there m other)),
        );
    of_rows = λ n opened. row_context n (row s.rows n).kind (is.contexts.of_rows n opened);
    of_groups = λ n g opened few. group_context n g (is.assigned.of_group n g) (is.contexts.of_groups n g opened few);
    bare = is.contexts.bare;
    owned = owned;
    in_table = is.contexts.in_table;
    count = omega (arith, count, is.contexts.count, long);
  }

  -- what holds of each job but that one
  by_place : (P : CurrentJob → Type 0) → ((k : ℕ) (d : CurrentJob) → k < length a.jobs → k ≢ i → P (get_or a.jobs k d)) → (k : ℕ) (d : CurrentJob) → k < length jobs' → P (get_or jobs' k d)
  by_place P each k d below = elim (cases_lt k i) [
    | inl before ↦ subst P (sym (get_or-remove_below a.jobs i d k before current.within)) (each k d (omega (arith, below, long)) (omega (arith, before)))
    | inr after ↦ subst P (sym (get_or-remove_above a.jobs i d k (omega (arith, after)) current.within)) (each (k + 1) d (omega (arith, below, long)) (omega (arith, after)))
  ]

  item : (k : ℕ) (d : CurrentJob) → (k < i → get_or jobs' k d ≡ get_or a.jobs k d) × (i ≤ k → get_or jobs' k d ≡ get_or a.jobs (k + 1) d)
  item k d = (λ before. get_or-remove_below a.jobs i d k before current.within, λ after. get_or-remove_above a.jobs i d k after current.within)

  rises : NumbersRise jobs'
  rises m k d order below = elim (cases_lt m i) [
    | inl low ↦ elim (cases_lt k i) [
      | inl both ↦
          let less = is.jobs.order m k d order (omega (arith, below, long)) in
          let first = ap (λ (x : CurrentJob). x.number) ((item m d).0 low) in
          let second = ap (λ (x : CurrentJob). x.number) ((item k d).0 both) in
          omega (arith, less, first, second)
      | inr after ↦
          let less = is.jobs.order m (k + 1) d (omega (arith, order)) (omega (arith, below, long)) in
          let first = ap (λ (x : CurrentJob). x.number) ((item m d).0 low) in
          let second = ap (λ (x : CurrentJob). x.number) ((item k d).1 (omega (arith, after))) in
          omega (arith, less, first, second)
    ]
    | inr high ↦
        let less = is.jobs.order (m + 1) (k + 1) d (omega (arith, order)) (omega (arith, below, long)) in
        let first = ap (λ (x : CurrentJob). x.number) ((item m d).1 (omega (arith, high))) in
        let second = ap (λ (x : CurrentJob). x.number) ((item k d).1 (omega (arith, high, order))) in
        omega (arith, less, first, second)
  ]

  apart : (k : ℕ) (d : CurrentJob) → k < length a.jobs → k ≢ i → (get_or a.jobs k d).number ≢ j
  apart k d below other own = numbers-apart a.jobs k i d is.jobs.order below current.within other (own ∙ sym (current.number d))

  has_still : (m : ℕ) → m ≢ j → HasJob a.jobs m → HasJob jobs' m
  has_still m other has = elim (cases_lt has.place i) [
    | inl before ↦ record {
      place = has.place;
      within = let within = current.within in omega (arith, before, within, long);
      number =
          λ d. ap (λ (x : CurrentJob). x.number) ((item has.place d).0 before) ∙ has.number d;
    }
    | inr after ↦
        let moved : has.place ≢ i = λ same. other (sym (has.number no_job) ∙ ap (λ k. (get_or a.jobs k no_job).number) same ∙ current.number no_job) in
        let later : i < has.place = omega (arith, after, moved) in
        let place : has.place - 1 + 1 ≡ has.place = omega (arith, later) in
        let within = has.within in
        record {
          place = has.place - 1;
          within = omega (arith, later, within, long);
          number = λ d. ap (λ (x : CurrentJob). x.number) ((item (has.place - 1) d).1 (omega (arith, later))) ∙ ap (λ k. (get_or a.jobs k d).number) place ∙ has.number d;
        }
  ]

  one_fewer : current_jobs t + 1 ≡ current_jobs s
  one_fewer =
      let change = count-with_job (λ (w : Work). not w.retired) s.jobs j (retired_work (job s.jobs j)) there.0 there.1 in
      let was = kept.kept in
      let one : one_if (not (job s.jobs j).retired) ≡ 1 = rw was refl in
      omega (arith, change, one)

  AreJobs-released : AreJobs t is.assigned jobs'
  AreJobs-released = record {
    order = rises;
    there = by_place (λ (x : CurrentJob). (1 ≤ x.number) × (x.number ≤ length t.jobs)) (λ k d below other. let its = is.jobs.there k d below in (its.0, omega (arith, its, as_many)));
    works = by_place (λ (x : CurrentJob). job t.jobs x.number ≡ x.work) (λ k d below other. job_there (get_or a.jobs k d).number (apart k d below other) ∙ is.jobs.works k d below);
    each = by_place (λ (x : CurrentJob). IsJob s.rows is.assigned x.number x) (λ k d below other. is.jobs.each k d below);
    all = λ m is_kept to. has_still m (not_it m is_kept) (is.jobs.all m (kept_before m is_kept) (omega (arith, to, as_many)));
    later = λ n opened. kept_still (row s.rows n).job (none_open n opened) (is.jobs.later n opened);
    many = omega (arith, one_fewer, is.jobs.many, long);
    few = omega (arith, is.jobs.few, long);
  }

  released_holds : held_count forest + 1 ≡ held_count a.contexts → Holds (record a { contexts = forest; jobs = jobs'; entries = a.entries + 1 }) (record t { entries = s.entries + 1 })
  released_holds count = record {
    config = is.config;
    places = is.places;
    assigned = is.assigned;
    made = is.made;
    made_jobs = is.made_jobs ∙ sym as_many;
    table = is.table;
    free = is.free;
    nests = is.nests;
    tags = is.tags;
    waiting = is.waiting;
    contexts = let its = AreContexts-released count in
        record { of_jobs = its.of_jobs; of_rows = its.of_rows; of_groups = its.of_groups; bare = its.bare; owned = its.owned; in_table = its.in_table; count = its.count };
    room = length-without a.contexts c ∙ is.room;
    jobs = let its = AreJobs-released in record { order = its.order; there = its.there; works = its.works; each = its.each; all = its.all; later = its.later; many = its.many; few = its.few };
    cells = is.cells;
    entries = ap (λ k. k + 1) is.entries;
    epoch = is.epoch;
    steady = steady_entries t (steady_job s is.steady j retired_work there.0 there.1 refl refl (λ some. some));
  }

  settled_released : IsSettled s → IsSettled t
  settled_released settled n waits =
      let same : is_job_cancelled (job t.jobs (row s.rows n).job) ≡ is_job_cancelled (job s.jobs (row s.rows n).job) = elim (cases_eq (row s.rows n).job j) [
        | inl here ↦ ap (λ k. is_job_cancelled (job t.jobs k)) here ∙ ap is_job_cancelled job_here ∙ ap (λ k. is_job_cancelled (job s.jobs k)) (sym here)
        | inr other ↦ ap is_job_cancelled (job_there (row s.rows n).job other)
      ] in
      ap (λ b. b || list_any (λ m. is_group_cancelled s.rows (row s.rows m).kind) (chain s.rows n)) same ∙ settled n waits

  pub released_rests : IsSettled s → held_count forest + 1 ≡ held_count a.contexts → (d : CurrentJob) → Rests (job_released a j d) (entry t)
  released_rests settled count d =
      let still = settled_released settled in
      let told = context_told d in
      let holds : Holds (job_released a j d) (record t { entries = s.entries + 1 }) =
      subst (λ x. Holds (record a { contexts = without a.contexts x; jobs = jobs'; entries = a.entries + 1 }) (record t { entries = s.entries + 1 })) (sym told) (released_holds count) in
      rw (settled_entry t still) (record { holds = holds; settled = still })
