-- The table, the free places, the tags and the jobs after a row has ended.
use Rattle.std.proofs.Common.{◌≡◌, ◌≢◌, ℕ, zero, suc, ◌+◌, ◌-◌, ◌==◌, ◌<◌, ◌≤◌, ℤ, List, [], ◌∷◌, ◌++◌, length, Option, Some, None, Bool, true, false, not, refl, sym, ap, ◌∙◌, arith, inl, inr, get_or}
use Rattle.std.proofs.Common.{map, length-set, subst}
use Rattle.std.specs.Prelude.{filter, slice_index_or, slice_set, count_by, is_some}
use Rattle.std.specs.List.{enumerate_from}
use Rattle.std.specs.Option.{option_map}
use Rattle.std.proofs.lemmas.Bool.{cases_eq}
use Rattle.std.proofs.lemmas.List.{get_or-set_same, get_or-set_other, map-set, set-get_or, get_or-map, get_or_default}
use Rattle.region_tag.specs.declared.regions.Tagged.{Tagged}
use Rattle.ready_pool.specs.Ready as ready
use Rattle.tenant_model.specs.declared.rows.Row.{Row}
use Rattle.tenant_model.specs.declared.works.Work.{Work}
use Rattle.tenant_model.specs.State.{State, row, with_at_number, job}
use Rattle.tenant_model.specs.Walks.{NumberedRow, is_open, is_unstarted, value_in}
use Rattle.tenant_model.proofs.Changed.{row-get_or, with_at_number-from}
use Rattle.tenant_model.proofs.Tended.{unstarted_open}
use Rattle.tenant_model.proofs.Within.{either_way}
use Rattle.arena_rows.specs.declared.rows.OpenRow.{OpenRow}
use Rattle.arena_rows.specs.declared.rows.CurrentJob.{CurrentJob}
use Rattle.arena_rows.specs.Represents.{Places, id_of, at_place, tagged_of, waiting, waiting_of, Stands, AreRows, AreFree, AreTagged, Assigned, IsJob, AreJobs, open_of, IsKept}
use Rattle.arena_rows.proofs.FreePlaces.{one_freed}
use Rattle.arena_rows.proofs.Closed.{row_old, tag_same, around_same, still, open_fewer, open_of_fewer, open_of_other}
use Rattle.arena_rows.proofs.Picked.{filter-map, filter-same}
use Rattle.arena_rows.proofs.Started.{at_same, at_other, some_is, some_none, option-same, map-same, same_id, waits, waiting-with}
use Rattle.arena_rows.proofs.JobPlaces.{numbers-apart, rise-set, number-set, has-set}
use Rattle.arena_rows.specs.Held.{NumbersRise}

-- the table before the entry is taken out: the other rows in it are those that stay open
pub record IsParted (rows rows' : List Row) (places : Places) (n : ℕ) (e : OpenRow) (table table1 : List (Option OpenRow)) : Type 0 where
  pub long : length table1 ≡ length table
  pub each : (m : ℕ) → m ≢ n → is_open (row rows m).phase ≡ true → Stands rows' places table1 m
  pub only : (q : ℕ) (x : OpenRow) → at_place table1 q ≡ Some x → (is_open (row rows x.number).phase ≡ true) × (places x.number ≡ q)
  pub tags : (q : ℕ) → option_map (tagged_of rows places) (at_place table1 q) ≡ option_map (tagged_of rows places) (at_place table q)
  pub taken : count_by is_some table1 ≡ count_by is_some table
  pub there : at_place table1 (places n) ≡ Some e
  pub number : e.number ≡ n

-- rows that do not wait, one of them changed
waiting-not : (k i : ℕ) (r d : Row) (xs : List Row) → i < length xs → is_unstarted (get_or xs i d).phase ≡ false → is_unstarted r.phase ≡ false →
    filter waits (enumerate_from k (slice_set xs i r)) ≡ filter waits (enumerate_from k xs)
waiting-not k i r d [] within old new = absurd (omega (arith, within))
waiting-not k zero r d (x ∷ xs) within old new = rw (old, new) refl
waiting-not k (suc i) r d (x ∷ xs) within old new =
    let rest = waiting-not (k + 1) i r d xs (omega (arith, within)) old new in
    elim (either_way (is_unstarted x.phase)) [
      | inl is ↦ rw is (ap (λ ps. (k, x) ∷ ps) rest)
      | inr not_so ↦ rw not_so rest
    ]

abbrev is_other : ℕ → NumberedRow → Bool
is_other n p = not (p.0 == n)

module _ (rows : List Row) (places : Places) (n : ℕ) (r : Row) (from : 1 ≤ n) (to : n ≤ length rows) (kind : r.kind ≡ (row rows n).kind) (same_job : r.job ≡ (row rows n).job)
    (marks : r.marks ≡ (row rows n).marks) (opened : is_open (row rows n).phase ≡ true) (closed : is_open r.phase ≡ false) where
  abbrev pub rows' : List Row
  rows' = with_at_number rows n r

  stays : (x : ℕ) → is_open (row rows' x).phase ≡ true → (x ≢ n) × (is_open (row rows x).phase ≡ true)
  stays x opened_x = still rows n r from to kind same_job marks opened closed x opened_x

  old : (m : ℕ) → m ≢ n → row rows' m ≡ row rows m
  old m other = row_old rows n r from to kind same_job marks m other

  tagged_same : (x : OpenRow) → tagged_of rows' places x ≡ tagged_of rows places x
  tagged_same x = rw (tag_same rows n r from to kind same_job marks places x.number, around_same rows n r from to kind same_job marks places x.number) refl

  module _ (table table1 : List (Option OpenRow)) (e : OpenRow) (within : places n < length table) (parted : IsParted rows rows' places n e table table1) where
    abbrev pub table' : List (Option OpenRow)
    table' = slice_set table1 (places n) None

    inside : places n < length table1
    inside = omega (arith, within, parted.long)

    pub AreRows-closed : AreRows rows' places table'
    AreRows-closed = record {
      each = λ m opened_m.
          let it = stays m opened_m in
          let its = parted.each m it.0 it.1 in
          let apart : places m ≢ places n = λ same.
          let one : its.entry ≡ e = some_is its.entry e (sym its.there ∙ ap (at_place table1) same ∙ parted.there) in
          it.0 (sym its.is.number ∙ ap (λ (x : OpenRow). x.number) one ∙ parted.number) in
          record { within = omega (arith, its.within, length-set table1 (places n) None); entry = its.entry; there = at_other table1 (places n) None inside (places m) apart ∙ its.there; is = its.is };
      only = λ q x here. elim (cases_eq q (places n)) [
        | inl same ↦ absurd (some_none x (sym here ∙ ap (at_place table') same ∙ at_same table1 (places n) None inside))
        | inr other ↦
            let its = parted.only q x (sym (at_other table1 (places n) None inside q other) ∙ here) in
            let apart : x.number ≢ n = λ same. other (sym its.1 ∙ ap places same) in
            (ap (λ (y : Row). is_open y.phase) (old x.number apart) ∙ its.0, its.1)
      ];
    }

    pub AreFree-closed : (limit : ℕ) → AreFree rows limit table → AreFree rows' limit table'
    AreFree-closed limit are = record {
      long = length-set table1 (places n) None ∙ parted.long ∙ are.long;
      count = omega (arith, open_fewer rows n r from to kind same_job marks opened closed, are.count, one_freed table1 (places n) e inside parted.there, parted.taken);
    }

    pub AreTagged-closed : (regions : List (Option Tagged)) → AreTagged rows places table regions → AreTagged rows' places table' (slice_set regions (places n) None)
    AreTagged-closed regions tags = record {
      long = length-set regions (places n) None ∙ tags.long ∙ sym parted.long ∙ sym (length-set table1 (places n) None);
      each = λ q. elim (cases_eq q (places n)) [
        | inl same ↦ ap (λ k. slice_index_or (slice_set regions (places n) None) k None) same ∙ get_or-set_same regions (places n) None None (omega (arith, within, tags.long)) ∙
            sym (ap (λ k. option_map (tagged_of rows' places) (at_place table' k)) same ∙ ap (option_map (tagged_of rows' places)) (at_same table1 (places n) None inside))
        | inr other ↦ get_or-set_other regions (places n) q None None other ∙ tags.each q ∙ sym (parted.tags q) ∙
            sym (option-same (tagged_of rows' places) (tagged_of rows places) (at_place table1 q) tagged_same) ∙
            sym (ap (option_map (tagged_of rows' places)) (at_other table1 (places n) None inside q other))
      ];
    }

  waiting_same : (p : NumberedRow) → waiting_of rows' places p ≡ waiting_of rows places p
  waiting_same p = rw (tag_same rows n r from to kind same_job marks places p.0) refl

  never_waits : is_unstarted r.phase ≡ false
  never_waits = elim (either_way (is_unstarted r.phase)) [
    | inl is ↦ absurd (grind (arith, unstarted_opened r is, closed))
    | inr fine ↦ fine
  ]
    where
      unstarted_opened : (q : Row) → is_unstarted q.phase ≡ true → is_open q.phase ≡ true
      unstarted_opened q is = unstarted_open q.phase is

  -- What waits is the same where the row was live,
  pub pool_live : is_unstarted (row rows n).phase ≡ false → map (waiting_of rows places) (waiting rows) ≡ map (waiting_of rows' places) (waiting rows')
  pool_live live =
      let place : n - 1 + 1 ≡ n = omega (arith, from) in
      let here : is_unstarted (get_or rows (n - 1) r).phase ≡ false = ap (λ (q : Row). is_unstarted q.phase) (row-get_or rows (n - 1) r (omega (arith, from, to)) ∙ ap (row rows) place) ∙ live in
      sym (ap (map (waiting_of rows' places)) (ap waiting (with_at_number-from rows n r from) ∙ waiting-not 1 (n - 1) r r rows (omega (arith, from, to)) here never_waits) ∙
      map-same (waiting_of rows' places) (waiting_of rows places) (waiting rows) waiting_same)

  -- and is without it where it waited.
  pub pool_dropped : filter (λ w. not (ready.is_of (id_of places n) w)) (map (waiting_of rows places) (waiting rows)) ≡ map (waiting_of rows' places) (waiting rows')
  pool_dropped =
      filter-map _ (waiting_of rows places) (waiting rows) ∙
      ap (map (waiting_of rows places)) (filter-same _ (is_other n) (waiting rows) (λ p. ap not (same_id places p.0 n))) ∙
      sym (ap (map (waiting_of rows' places)) (waiting-with rows n r from to never_waits) ∙
      map-same (waiting_of rows' places) (waiting_of rows places) (filter (is_other n) (waiting rows)) waiting_same)

  -- The jobs, with one open row less of the row's.
  module _ (s : State) (here : s.rows ≡ rows) (at : Assigned) (i : ℕ) (jobs : List CurrentJob) (d : CurrentJob) (its_job : (c : CurrentJob) → (row rows n).job ≡ (get_or jobs i c).number)
      (below : i < length jobs) (v : ℤ)
      (value : v ≡ value_in (row rows' (get_or jobs i d).work.root).phase) (roots : (k : ℕ) (c : CurrentJob) → k < length jobs → k ≢ i → (get_or jobs k c).work.root ≢ n) where
    abbrev it : CurrentJob
    it = get_or jobs i d

    abbrev pub it' : CurrentJob
    it' = record it { value = v; open_rows = it.open_rows - 1 }

    same_it : (c : CurrentJob) → it ≡ get_or jobs i c
    same_it c = get_or_default jobs i d c below

    same_number : (c : CurrentJob) → it'.number ≡ (get_or jobs i c).number
    same_number c = ap (λ (x : CurrentJob). x.number) (same_it c)

    same_work : (k : ℕ) (c : CurrentJob) → (get_or (slice_set jobs i it') k c).work ≡ (get_or jobs k c).work
    same_work k c = elim (cases_eq k i) [
      | inl same ↦ ap (λ m. (get_or (slice_set jobs i it') m c).work) same ∙ ap (λ (x : CurrentJob). x.work) (get_or-set_same jobs i it' c below) ∙ ap (λ (x : CurrentJob). x.work) (same_it c) ∙
          ap (λ m. (get_or jobs m c).work) (sym same)
      | inr other ↦ ap (λ (x : CurrentJob). x.work) (get_or-set_other jobs i k it' c other)
    ]

    job_at : (k : ℕ) (c : CurrentJob) → k < length jobs → NumbersRise jobs → IsJob rows at (get_or jobs k c).number (get_or jobs k c) →
        IsJob rows' at (get_or jobs k c).number (get_or (slice_set jobs i it') k c)
    job_at k c within rise is = elim (cases_eq k i) [
      | inl same ↦
          let item : get_or (slice_set jobs i it') k c ≡ it' = ap (λ m. get_or (slice_set jobs i it') m c) same ∙ get_or-set_same jobs i it' c below in
          let before : get_or jobs k c ≡ it = ap (λ m. get_or jobs m c) same ∙ get_or_default jobs i c d below in
          let j = (get_or jobs k c).number in
          let was : IsJob rows at j it = subst (IsJob rows at j) before is in
          let number : (row rows n).job ≡ j = its_job c ∙ ap (λ m. (get_or jobs m c).number) (sym same) in
          let fewer : open_of rows' j + 1 ≡ open_of rows j = rw number at (open_of_fewer rows n r from to kind same_job marks opened closed) in
          rw item (record {
            current = was.current;
            value = value;
            opened = omega (arith, was.opened, fewer);
            context = was.context;
          })
      | inr other ↦
          let item : get_or (slice_set jobs i it') k c ≡ get_or jobs k c = get_or-set_other jobs i k it' c other in
          let j = (get_or jobs k c).number in
          let number : (row rows n).job ≢ j = λ own. numbers-apart jobs k i c rise within below other (sym own ∙ its_job c) in
          rw item (record {
            current = is.current;
            value = is.value ∙ sym (ap (λ (q : Row). value_in q.phase) (old (get_or jobs k c).work.root (roots k c within other)));
            opened = is.opened ∙ sym (open_of_other rows n r from to kind same_job marks opened closed j number);
            context = is.context;
          })
    ]

    pub AreJobs-closed : AreJobs s at jobs → AreJobs (record s { rows = rows' }) at (slice_set jobs i it')
    AreJobs-closed are = record {
      order = rise-set jobs i it' below same_number are.order;
      there = λ k c within.
          let number = number-set jobs i it' below same_number k c in
          let its = are.there k c (omega (arith, within, length-set jobs i it')) in
          (omega (arith, number, its), omega (arith, number, its));
      works = λ k c within. ap (job s.jobs) (number-set jobs i it' below same_number k c) ∙ are.works k c (omega (arith, within, length-set jobs i it')) ∙ sym (same_work k c);
      all = λ j kept to. has-set jobs i it' below same_number j (are.all j kept to);
      many = are.many ∙ sym (length-set jobs i it');
      each = λ k c within.
          let low : k < length jobs = omega (arith, within, length-set jobs i it') in
          let j = (get_or jobs k c).number in
          let was : IsJob rows at j (get_or jobs k c) = rw here at (are.each k c low) in
          let same : j ≡ (get_or (slice_set jobs i it') k c).number = sym (number-set jobs i it' below same_number k c) in
          subst (λ m. IsJob rows' at m (get_or (slice_set jobs i it') k c)) same (job_at k c low are.order was);
      later = λ m opened_m.
          let it_m = stays m opened_m in
          let then : is_open (row s.rows m).phase ≡ true = rw here it_m.1 in
          let was : IsKept s.jobs (row rows m).job = rw here at (are.later m then) in
          subst (IsKept s.jobs) (sym (ap (λ (q : Row). q.job) (old m it_m.0))) was;
      few = omega (arith, are.few, length-set jobs i it');
    }
