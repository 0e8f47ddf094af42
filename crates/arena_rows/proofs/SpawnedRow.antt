-- A row that was spawned into a group whose context is there.
use Rattle.std.proofs.Common.{◌≡◌, ◌≢◌, ℕ, ◌+◌, ◌-◌, ◌==◌, ◌<◌, ◌≤◌, List, [], ◌∷◌, ◌++◌, length, length-set, Option, Some, None, true, false, refl, sym, ap, ◌∙◌, arith, inl, inr, map}
use Rattle.std.specs.Prelude.{slice_set}
use Rattle.std.specs.Option.{option_map}
use Rattle.std.proofs.lemmas.Bool.{cases_eq}
use Rattle.std.proofs.lemmas.List.{length_push, get_or-set_same, get_or-set_other}
use Rattle.std.proofs.lemmas.List.Sums.{sum_by-set}
use Rattle.job_language.specs.declared.instructions.TheConstants.{GROUPS}
use Rattle.job_step.specs.declared.frames.Frame.{Frame}
use Rattle.cancel_context.specs.Forest.{binding, held_count, with_bound}
use Rattle.region_tag.specs.declared.row_id.RowId.{RowId}
use Rattle.ready_pool.specs.declared.pool.Waiting.{Waiting}
use Rattle.ready_pool.specs.Ready.{Ready, with_row}
use Rattle.task_group.specs.Groups.{group, unused}
use Rattle.tenant_model.specs.declared.rows.Kind.TheVariants as kind
use Rattle.tenant_model.specs.declared.rows.Phase.TheVariants.{Unstarted}
use Rattle.tenant_model.specs.declared.rows.Row.{Row}
use Rattle.tenant_model.specs.State.{State, row}
use Rattle.tenant_model.specs.Walks.{is_spawned_by, region_of, top}
use Rattle.tenant_model.specs.Changes.{new_row, add_row}
use Rattle.tenant_model.specs.Linked.{MakersPrecede}
use Rattle.tenant_model.specs.Sound.{IsSteady}
use Rattle.tenant_model.proofs.Changed.{row-push_new, row-push_old}
use Rattle.tenant_model.proofs.AttendedSteps.{open_there}
use Rattle.tenant_model.proofs.Within.{region_of-above}
use Rattle.arena_rows.specs.declared.rows.OpenRow.{OpenRow}
use Rattle.arena_rows.specs.declared.rows.CurrentJob.{CurrentJob}
use Rattle.arena_rows.specs.Held.{Held}
use Rattle.arena_rows.specs.Represents.{at_place, id_of, source_of, stage_of, tag_of, tagged_of, waiting, waiting_of, IsGroup, IsRow, AreContexts, held_by, Assigned, Holds, IsFree}
use Rattle.arena_rows.specs.HeldChanges.{next_id, outer_of, index_of, entered, job_counted, with_member, with_entry, spawned_entry, put}
use Rattle.arena_rows.proofs.FreePlaces.{same_taken}
use Rattle.arena_rows.proofs.Started.{at_same, at_other, some_is, some_none}
use Rattle.arena_rows.proofs.Making.{IsNext, is_next, tag_there}
use Rattle.arena_rows.proofs.Made.{IsFresh, IsJoined, made_holds}
use Rattle.arena_rows.proofs.Pushing.{IsRow-pushed, AreNests-waiting, waiting-one}
use Rattle.arena_rows.proofs.PushedRows.{IsGroup-same, IsGroup-joined, tag_of-push}
use Rattle.arena_rows.proofs.TopRows.{top_there, top_job}
use Rattle.arena_rows.proofs.Grouped.{IsEntry}
use Rattle.arena_rows.proofs.Spawned.{spawned, AreContexts-spawned}
use Rattle.arena_rows.proofs.Posted.{no_contexts}
use Rattle.arena_rows.specs.HeldJobs.{IsCurrent}

module _ (a : Held) (s : State) (is : Holds a s) (place : ℕ) (placed : is.places (length s.rows + 1) ≡ place) (slot n g gc c : ℕ) (f : Frame) (me : OpenRow) (on_top : top s.rows slot ≡ Some n)
    (entry : IsEntry a s is n me)
    (kept : IsSteady (add_row s (new_row (kind.Spawned n g) (row s.rows n).job (Some slot) f Unstarted))) (vacant : IsFree a.table place) (few : g < GROUPS)
    (given : is.assigned.of_group n g ≡ Some gc) (free : binding a.contexts c ≡ None) (room : c < length a.contexts)
    (count : held_count (with_bound a.contexts c (Some gc)) ≡ held_count a.contexts + 1) where
  abbrev r : Row
  r = new_row (kind.Spawned n g) (row s.rows n).job (Some slot) f Unstarted

  abbrev rows' : List Row
  rows' = s.rows ++ r ∷ []

  abbrev N : ℕ
  N = length s.rows + 1

  abbrev e : OpenRow
  e = spawned_entry a (id_of is.places n) g (row s.rows n).job c slot f

  abbrev p : ℕ
  p = is.places n

  abbrev me' : OpenRow
  me' = with_member g me

  abbrev pub table : List (Option OpenRow)
  table = slice_set a.table p (Some me')

  precede : MakersPrecede s.rows
  precede = is.steady.formed.linked.makers

  precede' : MakersPrecede rows'
  precede' = kept.formed.linked.makers

  next : IsNext a place
  next = is_next a s is place vacant

  maker_there : (1 ≤ n) × (n ≤ length s.rows)
  maker_there = top_there a s is slot n on_top

  current : IsCurrent a.jobs (row s.rows n).job
  current = top_job a s is slot n on_top

  fresh : IsFresh a is.places r e
  fresh = record { number = refl; source = refl; job = refl; made_on = refl; stage = refl; groups = refl; contexts = refl }

  here : row rows' N ≡ r
  here = row-push_new s.rows N r refl

  joins : is_spawned_by n g r.kind ≡ true
  joins = let same : (n == n) ≡ true = grind arith in let its : (g == g) ≡ true = grind arith in rw (same, its) refl

  other_group : (h : ℕ) → h ≢ g → is_spawned_by n h r.kind ≡ false
  other_group h other = let apart : (g == h) ≡ false = grind (arith, other) in let same : (n == n) ≡ true = grind arith in rw (same, apart) refl

  other_row : (m h : ℕ) → m ≢ n → is_spawned_by m h r.kind ≡ false
  other_row m h other = let apart : (n == m) ≡ false = grind (arith, other) in rw apart refl

  groups_joined : (h : ℕ) → h < GROUPS → IsGroup rows' n h (group me'.groups h)
  groups_joined h low = elim (cases_eq h g) [
    | inl same ↦
        let new : group me'.groups g ≡ record (group me.groups g) { pending = (group me.groups g).pending + 1; is_used = true } =
        get_or-set_same me.groups g _ unused (omega (arith, few, entry.its.all_groups)) in
        rw (same, new) (IsGroup-joined s.rows r precede precede' n g (group me.groups g) maker_there.1 (is.steady.formed.marked n g) joins refl (entry.its.groups g few))
    | inr other ↦
        let old : group me'.groups h ≡ group me.groups h = get_or-set_other me.groups g h _ unused other in
        rw old (IsGroup-same s.rows r precede precede' n h (group me.groups h) maker_there.1 (other_group h other) (entry.its.groups h low))
  ]

  no_groups_yet : (m : ℕ) (x : OpenRow) → m ≤ length s.rows → m ≢ n → IsRow s.rows is.places m x → IsRow rows' is.places m x
  no_groups_yet m x old other its = IsRow-pushed s.rows r precede precede' is.places m x old (λ h low. other_row m h other) its

  maker_now : IsRow rows' is.places n me'
  maker_now =
      let still : IsRow rows' is.places n me' → IsRow rows' is.places n me' = λ x. x in
      let old : row rows' n ≡ row s.rows n = row-push_old s.rows n r maker_there.1 in
      record {
        number = entry.its.number;
        source = entry.its.source ∙ sym (ap (λ (q : Row). source_of is.places q.kind) old);
        job = entry.its.job ∙ sym (ap (λ (q : Row). q.job) old);
        made_on = entry.its.made_on ∙ sym (ap (λ (q : Row). q.made_on) old);
        stage = entry.its.stage ∙ sym (ap (λ (q : Row). stage_of q.frame q.phase) old);
        groups = groups_joined;
        all_groups = length-set me.groups g _ ∙ entry.its.all_groups;
        all_contexts = entry.its.all_contexts;
      }

  table_joined : IsJoined a s is.places r table
  table_joined = record {
    long = length-set a.table p (Some me');
    each = λ m opened.
        let its = is.table.each m opened in
        let there = open_there s.rows m opened in
        let within : is.places m < length table = omega (arith, its.within, length-set a.table p (Some me')) in
        elim (cases_eq m n) [
          | inl same ↦ record { within = within; entry = me'; there = ap (λ k. at_place table (is.places k)) same ∙ at_same a.table p (Some me') entry.within; is = rw same maker_now }
          | inr other ↦
              let apart : is.places m ≢ p = λ both.
              let its_here : at_place a.table p ≡ Some its.entry = ap (at_place a.table) (sym both) ∙ its.there in
              let one : its.entry ≡ me = some_is its.entry me (sym its_here ∙ entry.there) in
              other (sym its.is.number ∙ ap (λ (x : OpenRow). x.number) one ∙ entry.its.number) in
              record { within = within; entry = its.entry; there = at_other a.table p (Some me') entry.within (is.places m) apart ∙ its.there; is = no_groups_yet m its.entry there.1 other its.is }
        ];
    only = λ q x here. elim (cases_eq q p) [
      | inl same ↦
          let x_is : me' ≡ x = some_is me' x (sym (at_same a.table p (Some me') entry.within) ∙ ap (at_place table) (sym same) ∙ here) in
          let number : x.number ≡ n = sym (ap (λ (y : OpenRow). y.number) x_is) ∙ entry.its.number in
          (rw number entry.opened, ap is.places number ∙ sym same)
      | inr other ↦ is.table.only q x (sym (at_other a.table p (Some me') entry.within q other) ∙ here)
    ];
    tags = λ q. elim (cases_eq q p) [
      | inl same ↦ ap (λ k. option_map (tagged_of s.rows is.places) (at_place table k)) same ∙ ap (option_map (tagged_of s.rows is.places)) (at_same a.table p (Some me') entry.within) ∙
          sym (ap (λ k. option_map (tagged_of s.rows is.places) (at_place a.table k)) same ∙ ap (option_map (tagged_of s.rows is.places)) entry.there)
      | inr other ↦ ap (option_map (tagged_of s.rows is.places)) (at_other a.table p (Some me') entry.within q other)
    ];
    vacant = λ q none.
        let apart : q ≢ p = λ same. some_none me (sym entry.there ∙ ap (at_place a.table) (sym same) ∙ none) in
        at_other a.table p (Some me') entry.within q apart ∙ none;
    taken = same_taken a.table p me me' entry.within entry.there;
  }

  contexts_joined : AreContexts s (length a.jobs) table a.contexts is.assigned
  contexts_joined = record {
    of_jobs = is.contexts.of_jobs;
    of_rows = is.contexts.of_rows;
    of_groups = is.contexts.of_groups;
    bare = is.contexts.bare;
    owned = is.contexts.owned;
    in_table = λ q x here. elim (cases_eq q p) [
      | inl same ↦ let x_is : me' ≡ x = some_is me' x (sym (at_same a.table p (Some me') entry.within) ∙ ap (at_place table) (sym same) ∙ here) in rw (← x_is) (is.contexts.in_table p me entry.there)
      | inr other ↦ is.contexts.in_table q x (sym (at_other a.table p (Some me') entry.within q other) ∙ here)
    ];
    count = is.contexts.count ∙ ap (λ k. k + length a.jobs) (omega (arith, sum_by-set held_by a.table p (Some me') None entry.within, ap held_by entry.there));
  }

  kind_is : r.kind ≡ kind.Spawned n g
  kind_is = refl

  abbrev at : Assigned
  at = spawned s (length a.jobs) table a.contexts is.assigned c place n g gc r e precede precede' contexts_joined refl refl maker_there.1 entry.opened kind_is given free room

  contexts : AreContexts (add_row s r) (length a.jobs) (slice_set table place (Some e)) (with_bound a.contexts c (Some gc)) at
  contexts = AreContexts-spawned s (length a.jobs) table a.contexts is.assigned c place n g gc r e precede precede' contexts_joined refl refl maker_there.1 entry.opened kind_is given free room
      (λ q x there. (open_there s.rows x.number (table_joined.only q x there).0).1) refl (ap (λ k. k + 1) is.made) no_contexts refl (omega (arith, next.within, table_joined.long))
      (table_joined.vacant place next.vacant) count

  outer_is : outer_of a.regions e.source ≡ tag_of s.rows is.places n
  outer_is = tag_there a s is n entry.opened

  abbrev w : Waiting
  w = record { row = next_id a place; made_on = Some slot; region = tag_of s.rows is.places n }

  pool : with_row a.pool w ≡ record { isolation = a.config.isolation; limit = a.config.rows; slots = a.config.slots; rows = map (waiting_of rows' is.places) (waiting rows') }
  pool =
      let region : region_of rows' N ≡ region_of rows' n = region_of-above rows' precede' N n (omega arith) (omega (arith, length_push s.rows r)) (rw here refl) (rw here refl) in
      let tag : tag_of rows' is.places N ≡ tag_of s.rows is.places n = ap (option_map (id_of is.places)) region ∙ tag_of-push s.rows r precede precede' is.places n maker_there.1 in
      let number : a.made + 1 ≡ N = ap (λ k. k + 1) is.made in
      let waiting_at : ℕ → ℕ → Option RowId → Waiting = λ k q t. record { row = record { number = k; place = q }; made_on = Some slot; region = t } in
      let w_is : w ≡ waiting_at N (is.places N) (tag_of rows' is.places N) =
      ap (λ k. waiting_at k place (tag_of s.rows is.places n)) number ∙ ap (λ q. waiting_at N q (tag_of s.rows is.places n)) (sym placed) ∙ ap (waiting_at N (is.places N)) (sym tag) in
      let p : List Waiting → Ready = λ ws. record { isolation = a.config.isolation; limit = a.config.rows; slots = a.config.slots; rows = ws } in
      ap (λ q. with_row q w) is.waiting ∙ ap p (ap (λ v. map (waiting_of s.rows is.places) (waiting s.rows) ++ v ∷ []) w_is ∙ sym (waiting-one s.rows r precede precede' is.places refl))

  pub spawned_holds : (d : CurrentJob) → Holds (put (job_counted (entered (record (with_entry a p me') { contexts = with_bound a.contexts c (Some gc) }) place e) (row s.rows n).job d) w) (add_row s r)
  spawned_holds d = made_holds a s is place r e kept vacant placed refl refl fresh table table_joined (with_bound a.contexts c (Some gc)) at d (index_of a (row s.rows n).job) (with_row a.pool w)
      a.nests (λ c. sym (current.number c)) current.within (length-set a.contexts c _) (λ k. refl)
      (maker_there.1, outer_is) (λ none. absurd (some_none n none)) contexts (AreNests-waiting s.rows r precede precede' is.places a.config.slots a.nests refl is.nests) pool
