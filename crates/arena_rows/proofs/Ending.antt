-- What is asked before a row ends.
use Rattle.std.proofs.Common.{◌≡◌, ℕ, ◌+◌, ◌-◌, ◌==◌, ◌<◌, ◌≤◌, nat_lt, length, Option, Some, None, true, false, refl, sym, ap, ◌∙◌, arith, inl, inr, get_or, subst, unwrap_or}
use Rattle.std.specs.Prelude.{IsSome, is_some, slice_index_or, if◌then◌else◌}
use Rattle.std.proofs.lemmas.Bool.{cases_eq, cases_lt}
use Rattle.job_language.specs.declared.instructions.TheConstants.{GROUPS}
use Rattle.task_group.specs.Groups.{group}
use Rattle.cancel_context.specs.Forest.{parent, binding}
use Rattle.tenant_model.specs.declared.rows.Kind.{Kind}
use Rattle.tenant_model.specs.declared.rows.Kind.TheVariants.{Root, Posted, Spawned, Region}
use Rattle.tenant_model.specs.declared.rows.Phase.TheVariants.{Dropped}
use Rattle.tenant_model.specs.declared.rows.Row.{Row}
use Rattle.tenant_model.specs.State.{State, row, job}
use Rattle.tenant_model.specs.Walks.{is_open, is_job_cancelled, mark}
use Rattle.tenant_model.proofs.AttendedSteps.{open_there}
use Rattle.tenant_model.proofs.Changed.{row-get_or}
use Rattle.tenant_model.proofs.Within.{either_way}
use Rattle.arena_rows.specs.declared.rows.OpenRow.{OpenRow}
use Rattle.arena_rows.specs.declared.rows.CurrentJob.{CurrentJob}
use Rattle.arena_rows.specs.Held.{Held}
use Rattle.arena_rows.specs.HeldChanges.{index_of}
use Rattle.arena_rows.specs.Represents.{at_place, source_of, is_spawned, Owner, Nobody, OfJob, OfRow, OfGroup, bound, orphan, IsRowContext, IsGroupContext, IsOwned, Holds, open_of}
use Rattle.arena_rows.specs.Endings.{is_in, below, own_context, is_of_row, open_maker, IsLoose, MayEnd}
use Rattle.arena_rows.proofs.Alike.{member}
use Rattle.arena_rows.proofs.Closed.{open_of_fewer}
use Rattle.arena_rows.proofs.Ended.{own_some, spawned_is}
use Rattle.arena_rows.proofs.Ends.{is_group, group_in, held_child, not_group, parent_of}
use Rattle.arena_rows.proofs.Grouped.{IsEntry, is_entry}
use Rattle.arena_rows.proofs.Left.{below_is, is_below}
use Rattle.arena_rows.proofs.RowHeld.{row_held}
use Rattle.arena_rows.proofs.Started.{some_is, some_none}
use Rattle.arena_rows.proofs.Sums.{pending-done}
use Rattle.arena_rows.specs.HeldJobs.{IsCurrent}
use Rattle.arena_rows.proofs.JobPlaces.{current_told, held_is}

module _ (a : Held) (s : State) (is : Holds a s) (n : ℕ) (e : OpenRow) (entry : IsEntry a s is n e) where
  there : (1 ≤ n) × (n ≤ length s.rows)
  there = open_there s.rows n entry.opened

  context_is : e.context ≡ is.assigned.of_row n
  context_is = (is.contexts.in_table (is.places n) e entry.there).0 ∙ ap is.assigned.of_row entry.its.number

  given : (g c : ℕ) → g < GROUPS → slice_index_or e.group_contexts g None ≡ Some c → is.assigned.of_group n g ≡ Some c
  given g c few here = ap (λ k. is.assigned.of_group k g) (sym entry.its.number) ∙ sym ((is.contexts.in_table (is.places n) e entry.there).1 g few) ∙ here

  group_of : (g c : ℕ) → g < GROUPS → is.assigned.of_group n g ≡ Some c → IsGroupContext s a.contexts is.assigned n g (Some c)
  group_of g c few its = rw its at (is.contexts.of_groups n g entry.opened few)

  own_is : (c : ℕ) → own_context e ≡ Some c → (is_spawned e.source ≡ true) × (c ≡ is.assigned.of_row n)
  own_is c own = let its = own_some (is_spawned e.source) e.context c own in (its.0, sym its.1 ∙ context_is)

  own_kind : is_spawned e.source ≡ true → (m : ℕ) × (g : ℕ) × ((row s.rows n).kind ≡ Spawned m g)
  own_kind spawned = spawned_is (row s.rows n).kind is.places (rw (← entry.its.source) spawned)

  -- what is bound to its own context is of one of its groups
  bound_to_own : (m g : ℕ) → (row s.rows n).kind ≡ Spawned m g → IsLoose a s is.assigned n → (d : ℕ) (o : Owner) → parent a.contexts d ≡ Some (is.assigned.of_row n) → IsOwned s is.assigned d o →
      (h : ℕ) × (h < GROUPS) × (is.assigned.of_group n h ≡ Some d)
  bound_to_own m g made loose d Nobody bound_to owned = absurd owned
  bound_to_own m g made loose d (OfJob j) bound_to owned =
      let its = (is.contexts.of_jobs j owned.1 owned.2).1 in
      let its_d : binding a.contexts d ≡ Some (record { parent = None; is_asked = is_job_cancelled (job s.jobs j); is_orphan = false }) = rw (← owned.0) its in
      absurd (grind (arith, ap is_some (sym (parent_of s (length a.jobs) a.table a.contexts is.assigned is.steady is.jobs.later is.contexts d _ its_d) ∙ bound_to)))
  bound_to_own m g made loose d (OfRow x) bound_to owned =
      let its_x : IsRowContext s a.contexts is.assigned x (Spawned owned.2.0 owned.2.1) = rw owned.2.2 at (is.contexts.of_rows x owned.1) in
      let own : IsRowContext s a.contexts is.assigned n (Spawned m g) = rw made at (is.contexts.of_rows n entry.opened) in
      elim its_x.1 [
        | inl held ↦
            let gc = held.1.0 in
            let its_d : binding a.contexts d ≡ Some (bound gc false) = rw (← owned.0) held.1.2 in
            let same : gc ≡ is.assigned.of_row n =
            ap (λ o. unwrap_or o gc) (sym (parent_of s (length a.jobs) a.table a.contexts is.assigned is.steady is.jobs.later is.contexts d (bound gc false) its_d) ∙ bound_to) in
            let its_group : IsGroupContext s a.contexts is.assigned owned.2.0 owned.2.1 (Some gc) =
            rw held.1.1 at (is.contexts.of_groups owned.2.0 owned.2.1 held.0 (is.steady.stay.groups x owned.2.0 owned.2.1 owned.2.2)) in
            absurd (grind (arith, ap is_group (sym its_group.0 ∙ ap is.assigned.owner same ∙ own.0)))
        | inr gone ↦
            let its_d : binding a.contexts d ≡ Some orphan = rw (← owned.0) gone.1 in
            absurd (grind (arith, ap is_some (sym (parent_of s (length a.jobs) a.table a.contexts is.assigned is.steady is.jobs.later is.contexts d orphan its_d) ∙ bound_to)))
      ]
  bound_to_own m g made loose d (OfGroup x h) bound_to owned =
      let its_group : IsGroupContext s a.contexts is.assigned x h (Some d) = rw owned.0 at (is.contexts.of_groups x h owned.1 owned.2) in
      let same : is.assigned.of_row x ≡ is.assigned.of_row n =
      ap (λ o. unwrap_or o (is.assigned.of_row x)) (sym (parent_of s (length a.jobs) a.table a.contexts is.assigned is.steady is.jobs.later is.contexts d _ its_group.1) ∙ bound_to) in
      elim (cases_eq x n) [
        | inl here ↦ (h, owned.2, ap (λ k. is.assigned.of_group k h) (sym here) ∙ owned.0)
        | inr other ↦ absurd (loose.alone m g x made owned.1 other same)
      ]

  -- Its contexts can be released.
  pub may_end : IsLoose a s is.assigned n → MayEnd a.contexts e
  may_end loose = record {
    groups = record {
      held = λ g c few here. rw (group_of g c few (given g c few here)).1 refl;
      ends = λ g c d few here bound_to. loose.ends g c d few (given g c few here) bound_to;
      apart = λ g h c few few_h here here_h. ap group_in (sym (group_of g c few (given g c few here)).0 ∙ (group_of h c few_h (given h c few_h here_h)).0);
    };
    held = λ c own. rw (own_is c own).1 (row_held a s is n entry.opened);
    apart = λ c own. elim (either_way (is_in c (below e.group_contexts GROUPS))) [
      | inl found ↦
          let its = below_is e.group_contexts GROUPS c found in
          let owner = (group_of its.0 c its.1 (given its.0 c its.1 its.2)).0 in
          absurd (not_group s (length a.jobs) a.table a.contexts is.assigned is.steady is.jobs.later is.contexts n n its.0 there.0 there.1 entry.opened
          (ap is.assigned.owner (sym (own_is c own).1) ∙ owner))
      | inr out ↦ out
    ];
    alone = λ c d own bound_to.
        let its = own_is c own in
        let kind = own_kind its.0 in
        let bound_here = bound_to ∙ ap Some its.1 in
        let found = bound_to_own kind.0 kind.1 kind.2 loose d (is.assigned.owner d) bound_here
        (is.contexts.owned d (held_child s (length a.jobs) a.table a.contexts is.assigned is.steady is.jobs.later is.contexts d (is.assigned.of_row n) bound_here)) in
        is_below e.group_contexts GROUPS found.0 d found.1 ((is.contexts.in_table (is.places n) e entry.there).1 found.0 found.1 ∙ ap (λ k. is.assigned.of_group k found.0) entry.its.number ∙ found.2);
  }

  -- a row that ended, for what is counted
  abbrev over : Row
  over = record (row s.rows n) { phase = Dropped }

  -- The group that it was spawned into has a pending member.
  is_pending_in : (f g : ℕ) (x : OpenRow) → (row s.rows n).kind ≡ Spawned f g → at_place a.table (is.places f) ≡ Some x → x.number ≡ f → 0 < (group x.groups g).pending
  is_pending_in f g x made at_maker number =
      let opened_f : is_open (row s.rows f).phase ≡ true = ap (λ k. is_open (row s.rows k).phase) (sym number) ∙ (is.table.only (is.places f) x at_maker).0 in
      let maker = is_entry a s is f x opened_f at_maker in
      let since : (mark s.rows f g).rows < n = elim (cases_lt (mark s.rows f g).rows n) [
        | inl fine ↦ fine
        | inr late ↦ absurd (let gone : is_open (row s.rows n).phase ≡ false = is.steady.tended.past n f g made late in grind (arith, gone, entry.opened))
      ] in
      let place : n - 1 + 1 ≡ n = omega (arith, there) in
      let within : n - 1 < length s.rows = omega (arith, there) in
      let here : get_or s.rows (n - 1) over ≡ row s.rows n = row-get_or s.rows (n - 1) over within ∙ ap (row s.rows) place in
      let own_f : (f == f) ≡ true = grind arith in
      let own_g : (g == g) ≡ true = grind arith in
      let later : nat_lt (mark s.rows f g).rows n ≡ true = grind (arith, since) in
      let joined : member f g (mark s.rows f g).rows (n, get_or s.rows (n - 1) over) ≡ true = rw (here, made, own_f, own_g, later) refl in
      let fewer = pending-done f g (mark s.rows f g).rows n 1 (n - 1) over over s.rows (omega (arith, there)) within (ap (λ (q : Row). q.kind) (sym here)) (rw here entry.opened) refl joined in
      omega (arith, fewer, (maker.its.groups g (is.steady.stay.groups n f g made)).pending)

  -- what is asked of its maker's entry
  abbrev pub CanLeave : (p : ℕ × ℕ) → Type 0
  CanLeave p = (p.0 < length a.table) × (IsSome (at_place a.table p.0)) × ((x : OpenRow) → at_place a.table p.0 ≡ Some x → 0 < (group x.groups p.1).pending)

  by_maker : (f g : ℕ) → (row s.rows n).kind ≡ Spawned f g → (o : Option OpenRow) → at_place a.table (is.places f) ≡ o → (p : ℕ × ℕ) →
      (let m : Option (ℕ × ℕ) = if is_of_row o f then Some (is.places f, g) else None in m) ≡ Some p → CanLeave p
  by_maker f g made None at_maker p found = absurd (some_none p (sym found))
  by_maker f g made (Some x) at_maker p found = elim (cases_eq x.number f) [
    | inl same ↦
        let its : (x.number == f) ≡ true = grind (arith, same) in
        let p_is : (is.places f, g) ≡ p = some_is (is.places f, g) p (rw its at found) in
        let opened_f : is_open (row s.rows f).phase ≡ true = ap (λ k. is_open (row s.rows k).phase) (sym same) ∙ (is.table.only (is.places f) x at_maker).0 in
        let fine : CanLeave (is.places f, g) = (
          (is.table.each f opened_f).within,
          ap is_some at_maker,
          λ y here. let y_is : x ≡ y = some_is x y (sym at_maker ∙ here) in subst (λ (z : OpenRow). 0 < (group z.groups g).pending) y_is (is_pending_in f g x made at_maker same),
        ) in
        subst CanLeave p_is fine
    | inr other ↦
        let its : (x.number == f) ≡ false = grind (arith, other) in
        let nothing : None ≡ Some p = rw its at found in
        absurd (some_none p (sym nothing))
  ]

  by_kind : (k : Kind) → (row s.rows n).kind ≡ k → (p : ℕ × ℕ) → open_maker a.table (source_of is.places k) ≡ Some p → CanLeave p
  by_kind Root made p found = absurd (some_none p (sym found))
  by_kind Posted made p found = absurd (some_none p (sym found))
  by_kind (Region m) made p found = absurd (some_none p (sym found))
  by_kind (Spawned f g) made p found = by_maker f g made (at_place a.table (is.places f)) refl p found

  pub can_leave : (p : ℕ × ℕ) → open_maker a.table e.source ≡ Some p → CanLeave p
  can_leave p found = by_kind (row s.rows n).kind refl p (ap (open_maker a.table) (sym entry.its.source) ∙ found)

  pub its_job : IsCurrent a.jobs e.job
  its_job = subst (IsCurrent a.jobs) (sym entry.its.job) (current_told a s is (row s.rows n).job (is.jobs.later n entry.opened) (is.steady.formed.linked.jobs n there.0 there.1).1)

  pub some_open : (d : CurrentJob) → 0 < (slice_index_or a.jobs (index_of a e.job) d).open_rows
  some_open d =
      let counted = (held_is a s is e.job its_job d).opened in
      let fewer = open_of_fewer s.rows n over there.0 there.1 refl refl refl entry.opened refl in
      let same : open_of s.rows e.job ≡ open_of s.rows (row s.rows n).job = ap (open_of s.rows) entry.its.job in
      omega (arith, counted, fewer, same)
