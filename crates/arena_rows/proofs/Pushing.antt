-- What is held with one row more.
use Rattle.std.proofs.Common.{◌≡◌, ◌≢◌, ℕ, zero, suc, ◌+◌, ◌==◌, ◌<◌, ◌≤◌, List, [], ◌∷◌, ◌++◌, length, Option, Some, None, Bool, true, false, ◌&&◌, refl, sym, ap, ◌∙◌, arith, inl, inr, ◌⊎◌, get_or}
use Rattle.std.proofs.Common.{map, length-set, pos, subst}
use Rattle.std.specs.Prelude.{IfSome, slice_index_or, slice_set, filter, count_by, is_some, All}
use Rattle.std.specs.Option.{option_map}
use Rattle.std.proofs.lemmas.Bool.{cases_eq, cases_lt}
use Rattle.std.proofs.lemmas.List.{length_push, get_or-set_same, get_or-set_other, map-set, set-get_or, get_or-map, get_or_default}
use Rattle.std.proofs.lemmas.List.Elements.{filter-append, All-filter}
use Rattle.job_language.specs.declared.instructions.TheConstants.{GROUPS}
use Rattle.region_tag.specs.declared.row_id.RowId.{RowId}
use Rattle.region_tag.specs.declared.regions.Tagged.{Tagged}
use Rattle.region_tag.specs.Region.{tagged}
use Rattle.ready_pool.specs.declared.pool.Waiting.{Waiting}
use Rattle.nest_stack.specs.declared.stack.Nested.{Nested}
use Rattle.task_group.specs.Groups.{group}
use Rattle.tenant_model.specs.declared.rows.Kind.{Kind}
use Rattle.tenant_model.specs.declared.rows.Kind.TheVariants.{Root, Posted, Spawned, Region}
use Rattle.tenant_model.specs.declared.rows.Row.{Row}
use Rattle.tenant_model.specs.declared.works.Work.{Work}
use Rattle.tenant_model.specs.State.{State, row, job}
use Rattle.tenant_model.specs.Walks.{NumberedRow, numbered_rows, maker_of, is_open, is_unstarted, is_region, is_spawned_by, region_of, value_in}
use Rattle.tenant_model.specs.Changes.{add_row}
use Rattle.tenant_model.specs.Linked.{MakersPrecede}
use Rattle.tenant_model.proofs.Changed.{row-push_old, row-push_new, row-past}
use Rattle.tenant_model.proofs.Within.{region_of-here, region_of-above, region_of-none}
use Rattle.tenant_model.proofs.Stacking.{one_if, count-push}
use Rattle.tenant_model.proofs.AttendedSteps.{open_there}
use Rattle.tenant_model.proofs.Picks.{IsNumbered, numbered_all}
use Rattle.arena_rows.specs.declared.rows.OpenRow.{OpenRow}
use Rattle.arena_rows.specs.declared.rows.CurrentJob.{CurrentJob}
use Rattle.arena_rows.specs.Represents.{Places, id_of, at_place, source_of, stage_of, tag_of, around_of, tagged_of, nested_of, waiting, waiting_of, IsRow, Stands, AreRows, AreFree, AreNests}
use Rattle.arena_rows.specs.Represents.{AreTagged, open_of, Assigned, IsJob, AreJobs, IsKept}
use Rattle.arena_rows.proofs.Started.{some_is, some_none}
use Rattle.arena_rows.proofs.PushedRows.{tag_of-push, region_of-push, IsGroup-same}
use Rattle.arena_rows.proofs.Spawned.{append_none, numbered_push}
use Rattle.arena_rows.proofs.JobPlaces.{numbers-apart, rise-set, number-set, has-set}
use Rattle.arena_rows.specs.Held.{NumbersRise}

nothing_valued : (n : ℕ) → value_in (row [] n).phase ≡ pos 0
nothing_valued zero = refl
nothing_valued (suc n) = refl

map_append : {A B : Type 0} (f : A → B) (xs ys : List A) → map f (xs ++ ys) ≡ map f xs ++ map f ys
map_append f [] ys = refl
map_append f (x ∷ xs) ys = ap (λ zs. f x ∷ zs) (map_append f xs ys)

module _ (rows : List Row) (r : Row) (precede : MakersPrecede rows) (precede' : MakersPrecede (rows ++ r ∷ [])) (places : Places) where
  abbrev pub N : ℕ
  N = length rows + 1

  abbrev pub rows' : List Row
  rows' = rows ++ r ∷ []

  old : (m : ℕ) → m ≤ length rows → row rows' m ≡ row rows m
  old m to = row-push_old rows m r to

  new : row rows' N ≡ r
  new = row-push_new rows N r refl

  -- A row that is open now was, or is the new one.
  pub by_age : (m : ℕ) → is_open (row rows' m).phase ≡ true → ((m ≤ length rows) × (is_open (row rows m).phase ≡ true)) ⊎ (m ≡ N)
  by_age m opened =
      let there = open_there rows' m opened in
      elim (cases_eq m N) [
        | inl same ↦ inr same
        | inr other ↦
            let to : m ≤ length rows = omega (arith, there, other, length_push rows r) in
            inl (to, rw (old m to) at opened)
      ]

  -- An entry of a row before, which the new one is no member of.
  pub IsRow-pushed : (m : ℕ) (e : OpenRow) → m ≤ length rows → ((g : ℕ) → g < GROUPS → is_spawned_by m g r.kind ≡ false) → IsRow rows places m e → IsRow rows' places m e
  IsRow-pushed m e to apart is = record {
    number = is.number;
    source = is.source ∙ sym (ap (λ (q : Row). source_of places q.kind) (old m to));
    job = is.job ∙ sym (ap (λ (q : Row). q.job) (old m to));
    made_on = is.made_on ∙ sym (ap (λ (q : Row). q.made_on) (old m to));
    stage = is.stage ∙ sym (ap (λ (q : Row). stage_of q.frame q.phase) (old m to));
    groups = λ g few. IsGroup-same rows r precede precede' m g (group e.groups g) to (apart g few) (is.groups g few);
    all_groups = is.all_groups;
    all_contexts = is.all_contexts;
  }

  -- The table with the new entry.
  pub AreRows-pushed : (table : List (Option OpenRow)) (p : ℕ) (e : OpenRow) → ((m : ℕ) → is_open (row rows m).phase ≡ true → Stands rows' places table m) →
      ((q : ℕ) (x : OpenRow) → at_place table q ≡ Some x → (is_open (row rows x.number).phase ≡ true) × (places x.number ≡ q)) → places N ≡ p → at_place table p ≡ None → p < length table →
      is_open r.phase ≡ true → e.number ≡ N → IsRow rows' places N e →
      AreRows rows' places (slice_set table p (Some e))
  AreRows-pushed table p e each only placed vacant within opened number is = record {
    each = λ m opened_m. elim (by_age m opened_m) [
      | inl before ↦
          let its = each m before.1 in
          let apart : places m ≢ p = λ same. some_none its.entry (sym its.there ∙ ap (at_place table) same ∙ vacant) in
          record { within = omega (arith, its.within, length-set table p (Some e)); entry = its.entry; there = get_or-set_other table p (places m) (Some e) None apart ∙ its.there; is = its.is }
      | inr same ↦ rw same (record {
        within = omega (arith, placed, within, length-set table p (Some e));
        entry = e;
        there =
            ap (at_place (slice_set table p (Some e))) placed ∙ get_or-set_same table p (Some e) None within;
        is = is;
      })
    ];
    only = λ q x here. elim (cases_eq q p) [
      | inl same ↦
          let x_is : e ≡ x = some_is e x (sym (get_or-set_same table p (Some e) None within) ∙ ap (at_place (slice_set table p (Some e))) (sym same) ∙ here) in
          let number_is : x.number ≡ N = ap (λ (y : OpenRow). y.number) (sym x_is) ∙ number in
          rw number_is (rw new opened, placed ∙ sym same)
      | inr other ↦
          let its = only q x (sym (get_or-set_other table p q (Some e) None other) ∙ here) in
          (ap (λ (y : Row). is_open y.phase) (old x.number (open_there rows x.number its.0).1) ∙ its.0, its.1)
    ];
  }

  -- One place less is free.
  pub AreFree-pushed : (limit : ℕ) (table table' : List (Option OpenRow)) → length table' ≡ length table → count_by is_some table' ≡ count_by is_some table + 1 → is_open r.phase ≡ true →
      AreFree rows limit table → AreFree rows' limit table'
  AreFree-pushed limit table table' long more opened are =
      let one : one_if (is_open r.phase) ≡ 1 = rw opened refl in
      record { long = long ∙ are.long; count = omega (arith, are.count, more, count-push (λ (q : Row). is_open q.phase) rows r, one) }

  pub nested_old : (m : ℕ) → m ≤ length rows → nested_of rows' places m ≡ nested_of rows places m
  nested_old m to = ap (λ (q : Row). let n : Nested = record { frame = q.frame; row = id_of places m; is_region = is_region q.kind } in n) (old m to)

  -- The stacks, where the new row waits.
  pub AreNests-waiting : (slots : ℕ) (nests : List (List Nested)) → is_unstarted r.phase ≡ true → AreNests rows places slots nests → AreNests rows' places slots nests
  AreNests-waiting slots nests waits are = record {
    long = are.long;
    each = λ m slot h live.
        let opened : is_open (row rows' m).phase ≡ true = rw live refl in
        elim (by_age m opened) [
          | inl before ↦
              let its = are.each m slot h (ap (λ (q : Row). q.phase) (sym (old m before.0)) ∙ live) in
              (its.0, its.1, its.2 ∙ ap Some (sym (nested_old m before.0)))
          | inr same ↦ absurd (let no : is_unstarted r.phase ≡ false =
              ap (λ (q : Row). is_unstarted q.phase) (sym new) ∙ ap (λ k. is_unstarted (row rows' k).phase) (sym same) ∙ ap is_unstarted live in grind (arith, no, waits))
        ];
    only = λ slot h from to.
        let found = are.only slot h from to in
        let opened : is_open (row rows found.0).phase ≡ true = rw found.1 refl in
        (found.0, ap (λ (q : Row). q.phase) (old found.0 (open_there rows found.0 opened).1) ∙ found.1);
  }

  abbrev tagged_new : Tagged
  tagged_new = record { number = N; tag = tag_of rows' places N; around = around_of rows' places (row rows' N).kind }

  -- the tag of the new row
  tag_new : (k : Kind) (outer : Option RowId) → r.kind ≡ k → IfSome (maker_of k) (λ m. (m ≤ length rows) × (outer ≡ tag_of rows places m)) → (maker_of k ≡ None → outer ≡ None) →
      tagged_new ≡ tagged (id_of places N) outer (is_region k)
  tag_new Root outer kind maker none =
      let here : (row rows' N).kind ≡ Root = ap (λ (q : Row). q.kind) new ∙ kind in
      let region : region_of rows' N ≡ None = region_of-none rows' precede' N (omega arith) (omega (arith, length_push rows r)) (rw here refl) (rw here refl) in
      rw (region, here, none refl) refl
  tag_new Posted outer kind maker none =
      let here : (row rows' N).kind ≡ Posted = ap (λ (q : Row). q.kind) new ∙ kind in
      let region : region_of rows' N ≡ None = region_of-none rows' precede' N (omega arith) (omega (arith, length_push rows r)) (rw here refl) (rw here refl) in
      rw (region, here, none refl) refl
  tag_new (Spawned m g) outer kind maker none =
      let here : (row rows' N).kind ≡ Spawned m g = ap (λ (q : Row). q.kind) new ∙ kind in
      let region : region_of rows' N ≡ region_of rows m =
      region_of-above rows' precede' N m (omega arith) (omega (arith, length_push rows r)) (rw here refl) (rw here refl) ∙ region_of-push rows r precede precede' m maker.0 in
      rw (region, here, maker.1) refl
  tag_new (Region m) outer kind maker none =
      let here : (row rows' N).kind ≡ Region m = ap (λ (q : Row). q.kind) new ∙ kind in
      let region : region_of rows' N ≡ Some N = region_of-here rows' precede' N (omega arith) (omega (arith, length_push rows r)) (rw here refl) in
      rw (region, here, maker.1, tag_of-push rows r precede precede' places m maker.0) refl

  around_old : (m : ℕ) (k : Kind) → 1 ≤ m → m ≤ length rows → (row rows m).kind ≡ k → around_of rows' places k ≡ around_of rows places k
  around_old m Root from to kind = refl
  around_old m Posted from to kind = refl
  around_old m (Spawned x g) from to kind = refl
  around_old m (Region x) from to kind =
      let before : (1 ≤ x) × (x < m) = rw (ap maker_of kind) at (precede m from to) in
      tag_of-push rows r precede precede' places x (omega (arith, before, to))

  pub tagged_old : (e : OpenRow) → 1 ≤ e.number → e.number ≤ length rows → tagged_of rows' places e ≡ tagged_of rows places e
  tagged_old e from to =
      let kind : around_of rows' places (row rows' e.number).kind ≡ around_of rows places (row rows e.number).kind =
      ap (λ (q : Row). around_of rows' places q.kind) (old e.number to) ∙ around_old e.number (row rows e.number).kind from to refl in
      rw (tag_of-push rows r precede precede' places e.number to, kind) refl

  pub AreTagged-pushed : (table table1 : List (Option OpenRow)) (regions : List (Option Tagged)) (p : ℕ) (e : OpenRow) (outer : Option RowId) → AreRows rows places table →
      AreTagged rows places table regions → p < length table → places N ≡ p → e.number ≡ N →
      length table1 ≡ length table → ((q : ℕ) → option_map (tagged_of rows places) (at_place table1 q) ≡ option_map (tagged_of rows places) (at_place table q)) →
      ((q : ℕ) (x : OpenRow) → at_place table1 q ≡ Some x → (1 ≤ x.number) × (x.number ≤ length rows)) →
      IfSome (maker_of r.kind) (λ m. (m ≤ length rows) × (outer ≡ tag_of rows places m)) → (maker_of r.kind ≡ None → outer ≡ None) →
      AreTagged rows' places (slice_set table1 p (Some e)) (slice_set regions p (Some (tagged (id_of places N) outer (is_region r.kind))))
  AreTagged-pushed table table1 regions p e outer are tags within placed number long1 same1 numbers maker none = record {
    long = length-set regions p (Some (tagged (id_of places N) outer (is_region r.kind))) ∙ tags.long ∙ sym long1 ∙ sym (length-set table1 p (Some e));
    each = λ q. elim (cases_eq q p) [
      | inl same ↦
          let here : at_place (slice_set table1 p (Some e)) q ≡ Some e = ap (at_place (slice_set table1 p (Some e))) same ∙ get_or-set_same table1 p (Some e) None (omega (arith, within, long1)) in
          let tag : slice_index_or (slice_set regions p (Some (tagged (id_of places N) outer (is_region r.kind)))) q None ≡ Some (tagged (id_of places N) outer (is_region r.kind)) =
          ap (λ k. slice_index_or (slice_set regions p (Some (tagged (id_of places N) outer (is_region r.kind)))) k None) same ∙
          get_or-set_same regions p _ None (omega (arith, within, tags.long)) in
          let f : ℕ → Tagged = λ k. record { number = k; tag = tag_of rows' places k; around = around_of rows' places (row rows' k).kind } in
          tag ∙ ap Some (sym (tag_new r.kind outer refl maker none) ∙ ap f (sym number)) ∙ sym (ap (option_map (tagged_of rows' places)) here)
      | inr other ↦ get_or-set_other regions p q _ None other ∙ tags.each q ∙ sym (same1 q) ∙ sym (by_entry q (at_place table1 q) refl) ∙
          sym (ap (option_map (tagged_of rows' places)) (get_or-set_other table1 p q (Some e) None other))
    ];
  }
    where
      by_entry : (q : ℕ) (o : Option OpenRow) → at_place table1 q ≡ o → option_map (tagged_of rows' places) o ≡ option_map (tagged_of rows places) o
      by_entry q None here = refl
      by_entry q (Some x) here = let there = numbers q x here in ap Some (tagged_old x there.0 there.1)

  -- the rows that wait
  abbrev waits : NumberedRow → Bool
  waits p = is_unstarted p.1.phase

  waiting_more : waiting rows' ≡ waiting rows ++ filter waits ((1 + length rows, r) ∷ [])
  waiting_more = ap (filter waits) (numbered_push 1 rows r) ∙ filter-append waits (numbered_rows rows) ((1 + length rows, r) ∷ [])

  map_old : (ps : List NumberedRow) → All (IsNumbered rows) ps → map (waiting_of rows' places) ps ≡ map (waiting_of rows places) ps
  map_old [] all = refl
  map_old (p ∷ ps) all =
      let first = all 0 p (omega arith) in
      let rest = map_old ps (λ k d below. all (suc k) d (omega (arith, below))) in
      rw (tag_of-push rows r precede precede' places p.0 first.1) (ap (λ ws. waiting_of rows places p ∷ ws) rest)

  numbered_waiting : All (IsNumbered rows) (waiting rows)
  numbered_waiting = All-filter waits (IsNumbered rows) (numbered_rows rows) (numbered_all rows)

  pub waiting-none : is_unstarted r.phase ≡ false → map (waiting_of rows' places) (waiting rows') ≡ map (waiting_of rows places) (waiting rows)
  waiting-none started = ap (map (waiting_of rows' places)) (waiting_more ∙ rw started (append_none (waiting rows))) ∙ map_old (waiting rows) numbered_waiting

  pub waiting-one : is_unstarted r.phase ≡ true →
      map (waiting_of rows' places) (waiting rows') ≡ map (waiting_of rows places) (waiting rows) ++ (record { row = id_of places N; made_on = r.made_on; region = tag_of rows' places N }) ∷ []
  waiting-one is_one =
      let number : 1 + length rows ≡ N = omega arith in
      let f : ℕ → Waiting = λ k. record { row = id_of places k; made_on = r.made_on; region = tag_of rows' places k } in
      ap (map (waiting_of rows' places)) (waiting_more ∙ rw is_one refl) ∙ map_append (waiting_of rows' places) (waiting rows) ((1 + length rows, r) ∷ []) ∙
      ap (λ ws. ws ++ f (1 + length rows) ∷ []) (map_old (waiting rows) numbered_waiting) ∙ ap (λ w. map (waiting_of rows places) (waiting rows) ++ w ∷ []) (ap f number)

  -- values of roots
  pub value_same : value_in r.phase ≡ pos 0 → (m : ℕ) → value_in (row rows' m).phase ≡ value_in (row rows m).phase
  value_same none m = elim (cases_lt (length rows) m) [
    | inl after ↦ elim (cases_eq m N) [
      | inl same ↦ ap (λ k. value_in (row rows' k).phase) same ∙ ap (λ (q : Row). value_in q.phase) new ∙ none ∙ sym (ap (λ (q : Row). value_in q.phase) (row-past rows m after) ∙ nothing_valued m)
      | inr past ↦ ap (λ (q : Row). value_in q.phase) (row-past rows' m (omega (arith, after, past, length_push rows r)) ∙ sym (row-past rows m after))
    ]
    | inr before ↦ ap (λ (q : Row). value_in q.phase) (old m before)
  ]

  pub open_more : (j : ℕ) → open_of rows' j ≡ open_of rows j + one_if ((r.job == j) && is_open r.phase)
  open_more j = count-push (λ (q : Row). (q.job == j) && is_open q.phase) rows r

  -- The jobs, with one more open row of the new row's.
  module _ (s : State) (here : s.rows ≡ rows) (at at' : Assigned) (of_jobs : (j : ℕ) → at'.of_job j ≡ at.of_job j) (i : ℕ) (jobs : List CurrentJob) (d : CurrentJob)
      (its_job : (c : CurrentJob) → r.job ≡ (get_or jobs i c).number) (below : i < length jobs) (opened : is_open r.phase ≡ true) (none : value_in r.phase ≡ pos 0) where
    abbrev it : CurrentJob
    it = get_or jobs i d

    abbrev it' : CurrentJob
    it' = record it { open_rows = it.open_rows + 1 }

    same_it : (c : CurrentJob) → it ≡ get_or jobs i c
    same_it c = get_or_default jobs i d c below

    same_number : (c : CurrentJob) → it'.number ≡ (get_or jobs i c).number
    same_number c = ap (λ (x : CurrentJob). x.number) (same_it c)

    same_work : (k : ℕ) (c : CurrentJob) → (get_or (slice_set jobs i it') k c).work ≡ (get_or jobs k c).work
    same_work k c = elim (cases_eq k i) [
      | inl same ↦ ap (λ n. (get_or (slice_set jobs i it') n c).work) same ∙ ap (λ (x : CurrentJob). x.work) (get_or-set_same jobs i it' c below) ∙ ap (λ (x : CurrentJob). x.work) (same_it c) ∙
          ap (λ n. (get_or jobs n c).work) (sym same)
      | inr other ↦ ap (λ (x : CurrentJob). x.work) (get_or-set_other jobs i k it' c other)
    ]

    job_at : (k : ℕ) (c : CurrentJob) → k < length jobs → NumbersRise jobs → IsJob rows at (get_or jobs k c).number (get_or jobs k c) →
        IsJob rows' at' (get_or jobs k c).number (get_or (slice_set jobs i it') k c)
    job_at k c within rise is = elim (cases_eq k i) [
      | inl same ↦
          let item : get_or (slice_set jobs i it') k c ≡ it' = ap (λ n. get_or (slice_set jobs i it') n c) same ∙ get_or-set_same jobs i it' c below in
          let before : get_or jobs k c ≡ it = ap (λ n. get_or jobs n c) same ∙ get_or_default jobs i c d below in
          let j = (get_or jobs k c).number in
          let was : IsJob rows at j it = subst (IsJob rows at j) before is in
          let own : r.job ≡ j = its_job c ∙ ap (λ n. (get_or jobs n c).number) (sym same) in
          let number : (r.job == j) ≡ true = grind (arith, own) in
          let one : one_if ((r.job == j) && is_open r.phase) ≡ 1 = rw (number, opened) refl in
          rw item (record {
            current = was.current;
            value = was.value ∙ sym (value_same none it.work.root);
            opened = ap (λ n. n + 1) was.opened ∙ sym (open_more j ∙ ap (λ n. open_of rows j + n) one);
            context = was.context ∙ sym (of_jobs j);
          })
      | inr other ↦
          let item : get_or (slice_set jobs i it') k c ≡ get_or jobs k c = get_or-set_other jobs i k it' c other in
          let j = (get_or jobs k c).number in
          let apart : r.job ≢ j = λ own. numbers-apart jobs k i c rise within below other (sym own ∙ its_job c) in
          let number : (r.job == j) ≡ false = grind (arith, apart) in
          let nothing : one_if ((r.job == j) && is_open r.phase) ≡ 0 = rw number refl in
          rw item (record {
            current = is.current;
            value = is.value ∙ sym (value_same none (get_or jobs k c).work.root);
            opened = is.opened ∙ sym (open_more j ∙ ap (λ n. open_of rows j + n) nothing ∙ omega arith);
            context = is.context ∙ sym (of_jobs j);
          })
    ]

    pub AreJobs-pushed : AreJobs s at jobs → AreJobs (add_row s r) at' (slice_set jobs i it')
    AreJobs-pushed are = record {
      order = rise-set jobs i it' below same_number are.order;
      there = λ k c within.
          let number = number-set jobs i it' below same_number k c in
          let its = are.there k c (omega (arith, within, length-set jobs i it')) in
          (omega (arith, number, its), omega (arith, number, its));
      works = λ k c within. ap (job s.jobs) (number-set jobs i it' below same_number k c) ∙ are.works k c (omega (arith, within, length-set jobs i it')) ∙ sym (same_work k c);
      all = λ j kept to. has-set jobs i it' below same_number j (are.all j kept to);
      many = are.many ∙ sym (length-set jobs i it');
      each = λ k c within.
          let low : k < length jobs = omega (arith, within, length-set jobs i it') in
          let j = (get_or jobs k c).number in
          let was : IsJob rows at j (get_or jobs k c) = rw here at (are.each k c low) in
          let now : IsJob rows' at' j (get_or (slice_set jobs i it') k c) = job_at k c low are.order was in
          let same : j ≡ (get_or (slice_set jobs i it') k c).number = sym (number-set jobs i it' below same_number k c) in
          rw here (subst (λ n. IsJob rows' at' n (get_or (slice_set jobs i it') k c)) same now);
      later = λ n opened_n.
          let open_now : is_open (row rows' n).phase ≡ true = rw here at opened_n in
          let kept : IsKept s.jobs (row rows' n).job = elim (by_age n open_now) [
            | inl before ↦
                let open_then : is_open (row s.rows n).phase ≡ true = rw here before.1 in
                let was : IsKept s.jobs (row rows n).job = rw here at (are.later n open_then) in
                subst (IsKept s.jobs) (sym (ap (λ (q : Row). q.job) (old n before.0))) was
            | inr same ↦
                let its : (row rows' n).job ≡ (get_or jobs i d).number = ap (λ k. (row rows' k).job) same ∙ ap (λ (q : Row). q.job) new ∙ its_job d in
                let known = are.there i d below in
                subst (IsKept s.jobs) (sym its) (record { from = known.0; kept = ap (λ (w : Work). w.retired) (are.works i d below) ∙ (are.each i d below).current })
          ] in
          rw here kept;
      few = omega (arith, are.few, length-set jobs i it');
    }
