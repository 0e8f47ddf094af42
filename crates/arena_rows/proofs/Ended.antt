-- What is held after a row has ended stands for the state without it.
use Rattle.std.proofs.Common.{◌≡◌, ◌≢◌, ℕ, ◌+◌, ◌-◌, ◌==◌, ◌<◌, ◌≤◌, ℤ, List, length, Option, Some, None, Bool, true, false, refl, sym, ap, ◌∙◌, arith, inl, inr, length-set, subst, map, get_or}
use Rattle.std.specs.Prelude.{slice_index_or, slice_set, if◌then◌else◌}
use Rattle.std.proofs.lemmas.Bool.{cases_eq}
use Rattle.std.proofs.lemmas.List.Sums.{sum_by-set}
use Rattle.job_language.specs.declared.instructions.TheConstants.{GROUPS}
use Rattle.nest_stack.specs.declared.stack.Nested.{Nested}
use Rattle.ready_pool.specs.Ready.{Ready}
use Rattle.tenant_model.specs.declared.rows.Kind.{Kind}
use Rattle.tenant_model.specs.declared.rows.Kind.TheVariants.{Root, Posted, Spawned, Region}
use Rattle.tenant_model.specs.declared.rows.Row.{Row}
use Rattle.tenant_model.specs.State.{State, row, job, with_at_number}
use Rattle.tenant_model.specs.Walks.{is_open, value_in}
use Rattle.tenant_model.specs.Sound.{IsSteady}
use Rattle.tenant_model.proofs.AttendedSteps.{open_there}
use Rattle.tenant_model.proofs.Within.{either_way}
use Rattle.arena_rows.specs.declared.rows.OpenRow.{OpenRow}
use Rattle.arena_rows.specs.declared.rows.CurrentJob.{CurrentJob}
use Rattle.arena_rows.specs.Held.{Held}
use Rattle.arena_rows.specs.HeldChanges.{index_of, no_job}
use Rattle.arena_rows.specs.Represents.{at_place, id_of, source_of, is_spawned, waiting, waiting_of, held_by, IsGroupContext, AreNests, Assigned, Holds}
use Rattle.arena_rows.specs.Endings.{is_in, below, own_context, contexts_of, parted, with_ended, ended, HasEnded, IsLoose}
use Rattle.arena_rows.proofs.Closed.{row_new, row_old}
use Rattle.arena_rows.proofs.ContextsClosed.{IsOf, IsSpawned, AreContexts-closed}
use Rattle.arena_rows.proofs.Ends.{not_group}
use Rattle.arena_rows.proofs.Grouped.{IsEntry}
use Rattle.arena_rows.proofs.Left.{below_is, is_below, below_long, one_of, some_long, some_in, in_some}
use Rattle.arena_rows.proofs.Parting.{PartedAs, parted_as}
use Rattle.arena_rows.proofs.Started.{at_same, at_other, some_is, some_none}
use Rattle.arena_rows.proofs.TableClosed.{AreRows-closed, AreFree-closed, AreTagged-closed, AreJobs-closed}
use Rattle.tenant_model.proofs.Changed.{length-with}
use Rattle.arena_rows.specs.HeldJobs.{IsCurrent}
use Rattle.arena_rows.proofs.JobPlaces.{current_told, numbers-apart}

pub spawned_is : (k : Kind) (places : ℕ → ℕ) → is_spawned (source_of places k) ≡ true → IsSpawned k
spawned_is Root places is = absurd (grind (arith, is))
spawned_is Posted places is = absurd (grind (arith, is))
spawned_is (Spawned m g) places is = (m, g, refl)
spawned_is (Region m) places is = absurd (grind (arith, is))

pub own_some : (b : Bool) (c d : ℕ) → (let o : Option ℕ = if b then Some c else None in o) ≡ Some d → (b ≡ true) × (c ≡ d)
own_some true c d is = (refl, some_is c d is)
own_some false c d is = absurd (some_none d (sym is))

module _ (a b : Held) (s : State) (is : Holds a s) (n : ℕ) (e : OpenRow) (entry : IsEntry a s is n e) (loose : IsLoose a s is.assigned n) (r : Row) (kind : r.kind ≡ (row s.rows n).kind)
    (same_job : r.job ≡ (row s.rows n).job) (marks : r.marks ≡ (row s.rows n).marks) (closed : is_open r.phase ≡ false) (v : ℤ) (value : value_in r.phase ≡ v)
    (over : HasEnded a b (id_of is.places n) e v) where
  abbrev pub t : State
  t = record s { rows = with_at_number s.rows n r }

  abbrev cs : List ℕ
  cs = contexts_of e

  abbrev at : Assigned
  at = is.assigned

  there : (1 ≤ n) × (n ≤ length s.rows)
  there = open_there s.rows n entry.opened

  context_is : e.context ≡ at.of_row n
  context_is = (is.contexts.in_table (is.places n) e entry.there).0 ∙ ap at.of_row entry.its.number

  group_is : (g : ℕ) → g < GROUPS → slice_index_or e.group_contexts g None ≡ at.of_group n g
  group_is g few = (is.contexts.in_table (is.places n) e entry.there).1 g few ∙ ap (λ k. at.of_group k g) entry.its.number

  whose : (d : ℕ) → is_in d cs ≡ true → IsOf at (IsSpawned (row s.rows n).kind) n d
  whose d found = elim (some_in (own_context e) d (below e.group_contexts GROUPS) found) [
    | inl own ↦
        let its = own_some (is_spawned e.source) e.context d own in
        let made : is_spawned (source_of is.places (row s.rows n).kind) ≡ true = rw (← entry.its.source) its.0 in
        inr (sym context_is ∙ its.1, spawned_is (row s.rows n).kind is.places made)
    | inr of_group ↦
        let its = below_is e.group_contexts GROUPS d of_group in
        inl (its.0, its.1, sym (group_is its.0 its.1) ∙ its.2)
  ]

  all : (d : ℕ) → IsOf at (IsSpawned (row s.rows n).kind) n d → is_in d cs ≡ true
  all d (inl of_group) = in_some (own_context e) d (below e.group_contexts GROUPS) (inr (is_below e.group_contexts GROUPS of_group.0 d of_group.1 (group_is of_group.0 of_group.1 ∙ of_group.2)))
  all d (inr own) =
      let made : is_spawned e.source ≡ true = rw (entry.its.source, own.1.2) refl in
      let some : own_context e ≡ Some d = rw made (ap Some (context_is ∙ own.0)) in
      in_some (own_context e) d (below e.group_contexts GROUPS) (inl some)

  unshared : (x : ℕ) → is_open (row s.rows x).phase ≡ true → x ≢ n → is_in (at.of_row x) cs ≡ false
  unshared x opened_x other = elim (either_way (is_in (at.of_row x) cs)) [
    | inl found ↦ elim (whose (at.of_row x) found) [
      | inl of_group ↦
          let its : IsGroupContext s a.contexts at n of_group.0 (Some (at.of_row x)) = rw of_group.2 at (is.contexts.of_groups n of_group.0 entry.opened of_group.1) in
          let place = open_there s.rows x opened_x in
          absurd (not_group s (length a.jobs) a.table a.contexts at is.steady is.jobs.later is.contexts x n of_group.0 place.0 place.1 opened_x its.0)
      | inr own ↦ absurd (loose.alone own.1.0 own.1.1 x own.1.2 opened_x other (sym own.0))
    ]
    | inr fine ↦ fine
  ]

  part : PartedAs a s is n e r (parted a.table e.source v)
  part = parted_as a s is n e entry r kind same_job marks closed v value

  abbrev table1 : List (Option OpenRow)
  table1 = parted a.table e.source v

  abbrev p : ℕ
  p = is.places n

  abbrev table' : List (Option OpenRow)
  table' = slice_set table1 p None

  inside : p < length table1
  inside = omega (arith, entry.within, part.parted.long)

  owned_long : length cs ≡ held_by (Some e)
  owned_long =
      let groups = below_long e.group_contexts entry.its.all_contexts in
      let one : one_of (own_context e) ≡ (if is_spawned e.source then 1 else 0) = elim (either_way (is_spawned e.source)) [ inl own ↦ rw own refl | inr none ↦ rw none refl ] in
      omega (arith, some_long (own_context e) (below e.group_contexts GROUPS), groups, one)

  abbrev j : ℕ
  j = (row s.rows n).job

  current : IsCurrent a.jobs j
  current = current_told a s is j (is.jobs.later n entry.opened) (is.steady.formed.linked.jobs n there.0 there.1).1

  abbrev i : ℕ
  i = index_of a j

  number : (c : CurrentJob) → j ≡ (get_or a.jobs i c).number
  number c = sym (current.number c)

  low : i < length a.jobs
  low = current.within

  abbrev it : CurrentJob
  it = get_or a.jobs i no_job

  abbrev value' : ℤ
  value' = if it.work.root == n then v else it.value

  value_is : value' ≡ value_in (row (with_at_number s.rows n r) it.work.root).phase
  value_is = elim (cases_eq it.work.root n) [
    | inl same ↦
        let root : (it.work.root == n) ≡ true = grind (arith, same) in
        rw root (sym value ∙ sym (ap (λ (q : Row). value_in q.phase) (ap (row (with_at_number s.rows n r)) same ∙ row_new s.rows n r there.0 there.1 kind same_job marks)))
    | inr other ↦
        let root : (it.work.root == n) ≡ false = grind (arith, other) in
        rw root ((is.jobs.each i no_job low).value ∙ sym (ap (λ (q : Row). value_in q.phase) (row_old s.rows n r there.0 there.1 kind same_job marks it.work.root other)))
  ]

  roots : (k : ℕ) (c : CurrentJob) → k < length a.jobs → k ≢ i → (get_or a.jobs k c).work.root ≢ n
  roots k c below other same =
      let m = (get_or a.jobs k c).number in
      let work = is.jobs.works k c below in
      let known = is.jobs.there k c below in
      let its = is.steady.tended.roots m known.0 known.1 in
      let root : (job s.jobs m).root ≡ n = ap (λ w. w.root) work ∙ same in
      let job_n : j ≡ m = ap (λ q. (row s.rows q).job) (sym root) ∙ its.job in
      numbers-apart a.jobs k i c is.jobs.order below low other (sym job_n ∙ number c)

  abbrev held : Held
  held = record (ended a (id_of is.places n) e v) { contexts = b.contexts }

  -- the row taken off its slot or out of the pool
  pub closed_holds : (pool : Ready) (nests : List (List Nested)) → AreNests (with_at_number s.rows n r) is.places a.config.slots nests →
      pool ≡ record {
        isolation = a.config.isolation;
        limit = a.config.rows;
        slots = a.config.slots;
        rows =
            map (waiting_of (with_at_number s.rows n r) is.places) (waiting (with_at_number s.rows n r));
      } → IsSteady t →
      Holds (record b { pool = pool; nests = nests }) t
  closed_holds pool nests are_nests are_waiting steady =
      let its_job : e.job ≡ j = entry.its.job in
      let P : Held → Type 0 = λ x. Holds (record x { pool = pool; nests = nests }) t in
      let jobs_is : held.jobs ≡ slice_set a.jobs i (with_ended n v it) = ap (λ k. slice_set a.jobs (index_of a k) (with_ended n v (slice_index_or a.jobs (index_of a k) no_job))) its_job in
      let jobs_long : length held.jobs ≡ length a.jobs = length-set a.jobs (index_of a e.job) _ in
      subst P (sym over.rest) (record {
        config = is.config;
        places = is.places;
        assigned = at;
        made = is.made ∙ sym (length-with s.rows n r);
        made_jobs = is.made_jobs;
        table = AreRows-closed s.rows is.places n r there.0 there.1 kind same_job marks entry.opened closed a.table table1 e entry.within part.parted;
        free = AreFree-closed s.rows is.places n r there.0 there.1 kind same_job marks entry.opened closed a.table table1 e entry.within part.parted a.config.rows is.free;
        nests = are_nests;
        tags = AreTagged-closed s.rows is.places n r there.0 there.1 kind same_job marks entry.opened closed a.table table1 e entry.within part.parted a.regions is.tags;
        waiting = are_waiting;
        contexts = rw jobs_long (AreContexts-closed s (length a.jobs) a.table table' a.contexts b.contexts at is.contexts is.steady n r there.0 there.1 kind same_job marks entry.opened closed cs
            over.left whose all unshared
            (λ q x here. elim (cases_eq q p) [
              | inl same ↦ absurd (some_none x (sym here ∙ ap (at_place table') same ∙ at_same table1 p None inside))
              | inr other ↦ part.in_table q x (sym (at_other table1 p None inside q other) ∙ here)
            ])
            (omega (arith, sum_by-set held_by table1 p None None inside, ap held_by part.parted.there, part.sum, owned_long)));
        room = over.left.long ∙ is.room;
        jobs = rw jobs_is (AreJobs-closed s.rows is.places n r there.0 there.1 kind same_job marks entry.opened closed s refl at i a.jobs no_job number low value' value_is roots is.jobs);
        cells = is.cells;
        entries = is.entries;
        epoch = is.epoch;
        steady = steady;
      })
