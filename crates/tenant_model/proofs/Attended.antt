-- Makers stay while what they made is open, unless their job has a fault.
use Rattle.std.proofs.Common.{◌≡◌, ◌≢◌, ℕ, zero, suc, ◌+◌, ◌-◌, ◌==◌, ◌<◌, ◌≤◌, List, [], ◌∷◌, ◌++◌, length, get_or, Some, None, IsSome, true, false, ◌&&◌, refl, sym, ap, ◌∙◌, arith, inl, inr, ◌⊎◌}
use Rattle.std.proofs.Common.{map, nat_lt, ℤ}
use Rattle.std.specs.Prelude.{nat_le, filter}
use Rattle.std.specs.List.{enumerate_from}
use Rattle.std.proofs.lemmas.Bool.{cases_eq, cases_lt}
use Rattle.std.proofs.lemmas.List.{length_push}
use Rattle.job_language.specs.declared.instructions.TheConstants.{GROUPS}
use Rattle.job_step.specs.declared.frames.Frame.{Frame}
use Rattle.job_step.specs.Frame.{instr_at}
use Rattle.tenant_model.specs.declared.rows.Kind.{Kind}
use Rattle.tenant_model.specs.declared.rows.Kind.TheVariants.{Root, Posted, Spawned, Region}
use Rattle.tenant_model.specs.declared.rows.Phase.{Phase}
use Rattle.tenant_model.specs.declared.rows.Phase.TheVariants.{Unstarted, Live, Done, Dropped, Faulted}
use Rattle.tenant_model.specs.declared.rows.Row.{Row}
use Rattle.tenant_model.specs.declared.works.Work.{Work}
use Rattle.tenant_model.specs.State.{State, row, job, with_at_number}
use Rattle.thread_cells.specs.Cells.{Table}
use Rattle.tenant_model.specs.Walks.{NumberedRow, maker_of, is_unstarted, is_open, is_spawned_by, is_used, mark, height}
use Rattle.tenant_model.specs.Changes.{on_row, add_row, with_frame, task_height, faulted_row, faulted_phase}
use Rattle.tenant_model.specs.Shared.{handed_frame, hand_back, has_used_group}
use Rattle.tenant_model.specs.WellFormed.{IsWellFormed}
use Rattle.tenant_model.specs.Sound.{IsTended, MakersStay}
use Rattle.tenant_model.proofs.Within.{either_way}
use Rattle.tenant_model.proofs.Changed.{row-with_same, row-with_other, row-push_old, row-push_new, row-past, row-get_or, row-map, length-with}
use Rattle.tenant_model.proofs.Insides.{live_low}
use Rattle.tenant_model.proofs.Invariance.{IsAt}
use Rattle.tenant_model.proofs.Tending.{made_there, EndsSome}
use Rattle.tenant_model.proofs.Tended.{top_is_bare}
use Rattle.tenant_model.proofs.Together.{same_job}

-- a fault that is there stays
pub record KeepFaults (a b : List Work) : Type 0 where
  pub faults : (j : ℕ) → IsSome (job a j).fault → IsSome (job b j).fault

-- the maker of row n is open, or the job has a fault
abbrev IsAttended : State → ℕ → ℕ → Type 0
IsAttended s n m = (is_open (row s.rows m).phase ≡ true) ⊎ IsSome (job s.jobs (row s.rows n).job).fault

pub MakersStay-jobs : (s : State) (jobs : List Work) → KeepFaults s.jobs jobs → MakersStay s → MakersStay (record s { jobs = jobs })
MakersStay-jobs s jobs keep is = record {
  groups = is.groups;
  makers = λ n m opened made. elim (is.makers n m opened made) [
    | inl stays ↦ inl stays
    | inr fault ↦ inr (keep.faults (row s.rows n).job fault)
  ];
}

pub MakersStay-beside : (s : State) (entries epoch : ℕ) (cells : Table) → MakersStay s → MakersStay (record s { cells = cells; entries = entries; epoch = epoch })
MakersStay-beside s entries epoch cells is = record { groups = is.groups; makers = is.makers }

-- some rows have ended, and each that made an open one has a fault in its job
pub MakersStay-ends : (s : State) (rows : List Row) → EndsSome s.rows rows →
    ((n m : ℕ) → is_open (row rows n).phase ≡ true → maker_of (row s.rows n).kind ≡ Some m → is_open (row s.rows m).phase ≡ true → is_open (row rows m).phase ≡ false →
    IsSome (job s.jobs (row s.rows n).job).fault) →
    MakersStay s → MakersStay (record s { rows = rows })
MakersStay-ends s rows ends orphans is = record {
  groups = λ n m g kind. is.groups n m g (sym (ends.kinds n) ∙ kind);
  makers = λ n m opened made.
      let made_before : maker_of (row s.rows n).kind ≡ Some m = ap maker_of (sym (ends.kinds n)) ∙ made in
      elim (is.makers n m (ends.opens n opened) made_before) [
        | inr fault ↦ inr (rw (ends.jobs n) fault)
        | inl was_open ↦ elim (either_way (is_open (row rows m).phase)) [
          | inl stays ↦ inl stays
          | inr ended ↦ inr (rw (ends.jobs n) (orphans n m opened made_before was_open ended))
        ]
      ];
}

-- a row changed, of the same kind and job; if it has ended, the job of what it made has a fault
pub MakersStay-set : (s : State) (n : ℕ) (r : Row) → 1 ≤ n → n ≤ length s.rows → r.kind ≡ (row s.rows n).kind → r.job ≡ (row s.rows n).job →
    (is_open r.phase ≡ true → is_open (row s.rows n).phase ≡ true) →
    (is_open r.phase ≡ false → (x : ℕ) → is_open (row s.rows x).phase ≡ true → maker_of (row s.rows x).kind ≡ Some n → IsSome (job s.jobs (row s.rows x).job).fault) →
    MakersStay s → MakersStay (record s { rows = with_at_number s.rows n r })
MakersStay-set s n r from to kind job_same opens orphans is =
    let rows = with_at_number s.rows n r in
    let here : (m : ℕ) → m ≡ n → row rows m ≡ r = λ m same. ap (row rows) same ∙ row-with_same s.rows n r from to in
    let kinds : (m : ℕ) → (row rows m).kind ≡ (row s.rows m).kind = λ m. elim (cases_eq m n) [
      | inl same ↦ ap (λ (q : Row). q.kind) (here m same) ∙ kind ∙ ap (λ k. (row s.rows k).kind) (sym same)
      | inr other ↦ ap (λ (q : Row). q.kind) (row-with_other s.rows n m r from other)
    ] in
    let jobs : (m : ℕ) → (row rows m).job ≡ (row s.rows m).job = λ m. elim (cases_eq m n) [
      | inl same ↦ ap (λ (q : Row). q.job) (here m same) ∙ job_same ∙ ap (λ k. (row s.rows k).job) (sym same)
      | inr other ↦ ap (λ (q : Row). q.job) (row-with_other s.rows n m r from other)
    ] in
    let opens_before : (m : ℕ) → is_open (row rows m).phase ≡ true → is_open (row s.rows m).phase ≡ true = λ m opened. elim (cases_eq m n) [
      | inl same ↦ ap (λ k. is_open (row s.rows k).phase) same ∙ opens (ap (λ (q : Row). is_open q.phase) (sym (here m same)) ∙ opened)
      | inr other ↦ ap (λ (q : Row). is_open q.phase) (sym (row-with_other s.rows n m r from other)) ∙ opened
    ] in
    record {
      groups = λ x m g spawned. is.groups x m g (sym (kinds x) ∙ spawned);
      makers = λ x m opened made.
          let made_before : maker_of (row s.rows x).kind ≡ Some m = ap maker_of (sym (kinds x)) ∙ made in
          elim (is.makers x m (opens_before x opened) made_before) [
            | inr fault ↦ inr (rw (jobs x) fault)
            | inl was_open ↦ elim (cases_eq m n) [
              | inl same ↦ elim (either_way (is_open r.phase)) [
                | inl stays ↦ inl (ap (λ (q : Row). is_open q.phase) (here m same) ∙ stays)
                | inr ended ↦ inr (rw (jobs x) (orphans ended x (opens_before x opened) (made_before ∙ ap Some same)))
              ]
              | inr other ↦ inl (ap (λ (q : Row). is_open q.phase) (row-with_other s.rows n m r from other) ∙ was_open)
            ]
          ];
    }

-- a new row, whose maker is open
pub MakersStay-push : (s : State) (r : Row) → IsWellFormed s → ((m : ℕ) → maker_of r.kind ≡ Some m → (m ≤ length s.rows) × (is_open (row s.rows m).phase ≡ true)) →
    ((m g : ℕ) → r.kind ≡ Spawned m g → g < GROUPS) →
    MakersStay s → MakersStay (record s { rows = s.rows ++ r ∷ [] })
MakersStay-push s r well maker group is =
    let rows = s.rows ++ r ∷ [] in
    record {
      groups = λ n m g spawned.
          let made = made_or_new s r well n m (ap maker_of spawned) in
          elim made [
            | inl new ↦ group m g (ap (λ (q : Row). q.kind) (sym new) ∙ spawned)
            | inr old ↦ is.groups n m g (ap (λ (q : Row). q.kind) (sym old.0) ∙ spawned)
          ];
      makers = λ n m opened made. elim (made_or_new s r well n m made) [
        | inl new ↦
            let its = maker m (ap (λ (q : Row). maker_of q.kind) (sym new) ∙ made) in
            inl (ap (λ (q : Row). is_open q.phase) (row-push_old s.rows m r its.0) ∙ its.1)
        | inr old ↦
            let same_maker = row-push_old s.rows m r old.1 in
            elim (is.makers n m (ap (λ (q : Row). is_open q.phase) (sym old.0) ∙ opened) (ap (λ (q : Row). maker_of q.kind) (sym old.0) ∙ made)) [
              | inl stays ↦ inl (ap (λ (q : Row). is_open q.phase) same_maker ∙ stays)
              | inr fault ↦ inr (rw old.0 fault)
            ]
      ];
    }
  where
    none_made : (n m : ℕ) → maker_of (row [] n).kind ≡ Some m → ⊥
    none_made zero m made = let none : None ≡ Some m = made in cc
    none_made (suc n) m made = let none : None ≡ Some m = made in cc

    -- a row of the longer list that was made is the new one, or was there with its maker
    made_or_new : (s : State) (r : Row) → IsWellFormed s → (n m : ℕ) → maker_of (row (s.rows ++ r ∷ []) n).kind ≡ Some m →
        (row (s.rows ++ r ∷ []) n ≡ r) ⊎ ((row (s.rows ++ r ∷ []) n ≡ row s.rows n) × (m ≤ length s.rows))
    made_or_new s r well n m made = elim (cases_lt (length s.rows) n) [
      | inl after ↦ elim (cases_eq n (length s.rows + 1)) [
        | inl is ↦ inl (row-push_new s.rows n r is)
        | inr past ↦ absurd (none_made n m (ap (λ (q : Row). maker_of q.kind) (sym (row-past (s.rows ++ r ∷ []) n (omega (arith, after, past, length_push s.rows r)))) ∙ made))
      ]
      | inr before ↦
          let old = row-push_old s.rows n r before in
          let there = made_there s well.linked n m (ap (λ (q : Row). maker_of q.kind) (sym old) ∙ made) in
          inr (old, omega (arith, there))
    ]

-- A row that was spawned since the last passed wait of its group makes the group used.
used_from : (f g most k : ℕ) (rows : List Row) (i : ℕ) (d : Row) → i < length rows → is_spawned_by f g (get_or rows i d).kind ≡ true → most < k + i →
    0 < length (filter (λ (p : NumberedRow). is_spawned_by f g p.1.kind && nat_lt most p.0) (enumerate_from k rows))
used_from f g most k [] i d within spawned later = absurd (omega (arith, within))
used_from f g most k (x ∷ xs) zero d within spawned later =
    let late : nat_lt most k ≡ true = grind (arith, later) in
    rw (spawned, late) (omega arith)
used_from f g most k (x ∷ xs) (suc i) d within spawned later =
    let rest = used_from f g most (k + 1) xs i d (omega (arith, within)) spawned (omega (arith, later)) in
    elim (either_way (is_spawned_by f g x.kind && nat_lt most k)) [
      | inl member ↦ rw member (omega (arith, rest))
      | inr stranger ↦ rw stranger rest
    ]

pub used_by : (rows : List Row) (f g n : ℕ) → 1 ≤ n → n ≤ length rows → (row rows n).kind ≡ Spawned f g → (mark rows f g).rows < n → is_used rows f g ≡ true
used_by rows f g n from to kind later =
    let place : n - 1 + 1 ≡ n = omega (arith, from) in
    let is : get_or rows (n - 1) (row [] 0) ≡ row rows n = row-get_or rows (n - 1) (row [] 0) (omega (arith, from, to)) ∙ ap (row rows) place in
    let spawned : is_spawned_by f g (row rows n).kind ≡ true = rw kind (grind arith) in
    let some = used_from f g (mark rows f g).rows 1 rows (n - 1) (row [] 0) (omega (arith, from, to)) (ap (λ (r : Row). is_spawned_by f g r.kind) is ∙ spawned) (omega (arith, later, from)) in
    grind (arith, some)

unused_group : (s : State) (n g : ℕ) → has_used_group s n ≡ false → g < GROUPS → is_used s.rows n g ≡ false
unused_group s n zero unused low = grind (arith, unused)
unused_group s n (suc zero) unused low = grind (arith, unused)
unused_group s n (suc (suc zero)) unused low = grind (arith, unused)
unused_group s n (suc (suc (suc zero))) unused low = grind (arith, unused)
unused_group s n (suc (suc (suc (suc g)))) unused low = absurd (omega (arith, low))

abbrev pub Both : State → Type 0
Both s = IsTended s × MakersStay s

closed_or : (p : Phase) (slot h : ℕ) → p ≡ Live slot h → is_open p ≡ false → ⊥
closed_or p slot h live closed = let opened : is_open p ≡ true = rw live refl in grind (arith, opened, closed)

module _ (s : State) (slot n : ℕ) (at : IsAt s slot n) (is : Both s) where
  -- a change of the topmost row that leaves it where it is
  pub kept_at : (r : Row) → r.kind ≡ (row s.rows n).kind → r.job ≡ (row s.rows n).job → r.phase ≡ (row s.rows n).phase → MakersStay (record s { rows = with_at_number s.rows n r })
  kept_at r kind job_same phase =
      MakersStay-set s n r at.from at.to kind job_same (λ opened. ap is_open (sym phase) ∙ opened)
      (λ closed x opened made. absurd (closed_or r.phase slot (height s.rows slot) (phase ∙ at.live) closed)) is.1

  pub framed_kept : (f : Frame) → MakersStay (with_frame s n f)
  framed_kept f = kept_at (record (row s.rows n) { frame = f }) refl refl refl

  top_open : (f : Frame) → is_open (row (with_frame s n f).rows n).phase ≡ true
  top_open f = rw (row-with_same s.rows n (record (row s.rows n) { frame = f }) at.from at.to) (rw at.live refl)

  pub made_kept : (f : Frame) (r : Row) → IsWellFormed (with_frame s n f) → ((m : ℕ) → maker_of r.kind ≡ Some m → m ≡ n) → ((m g : ℕ) → r.kind ≡ Spawned m g → g < GROUPS) →
      MakersStay (add_row (with_frame s n f) r)
  made_kept f r well maker group = MakersStay-push (with_frame s n f) r well (λ m made.
      let e = maker m made in
      (omega (arith, e, at.to, length-with s.rows n (record (row s.rows n) { frame = f })), rw e (top_open f))) group (framed_kept f)

  -- the topmost row ends, and has waited for all that it spawned
  pub over_kept : (f : Frame) (v : ℤ) → has_used_group s n ≡ false → MakersStay (on_row s n (λ r. record r { frame = f; phase = Done v }))
  over_kept f v unused = MakersStay-set s n (record (row s.rows n) { frame = f; phase = Done v }) at.from at.to refl refl (λ opened. absurd (let no : false ≡ true = opened in grind (arith, no)))
      (λ closed x opened made. absurd (orphan x (row s.rows x).kind refl opened made)) is.1
    where
      open_lives : (x : ℕ) (p : Phase) → (row s.rows x).phase ≡ p → is_open p ≡ true → is_unstarted p ≡ false → (t h : ℕ) × (p ≡ Live t h)
      open_lives x Unstarted phase opened started = absurd (grind (arith, started))
      open_lives x (Live t h) phase opened started = (t, h, refl)
      open_lives x (Done w) phase opened started = absurd (grind (arith, opened))
      open_lives x Dropped phase opened started = absurd (grind (arith, opened))
      open_lives x Faulted phase opened started = absurd (grind (arith, opened))

      orphan : (x : ℕ) (k : Kind) → (row s.rows x).kind ≡ k → is_open (row s.rows x).phase ≡ true → maker_of (row s.rows x).kind ≡ Some n → ⊥
      orphan x Root kind opened made = let none : None ≡ Some n = rw kind at made in cc
      orphan x Posted kind opened made = let none : None ≡ Some n = rw kind at made in cc
      orphan x (Spawned m g) kind opened made =
          let same : Some m ≡ Some n = rw kind at made in
          let e : m ≡ n = grind (arith, same) in
          let own : (row s.rows x).kind ≡ Spawned n g = kind ∙ ap (λ i. Spawned i g) e in
          let there = made_there s at.well.linked x n made in
          elim (cases_lt (mark s.rows n g).rows x) [
            | inl later ↦
                let used = used_by s.rows n g x there.0 there.1 own later in
                let none = unused_group s n g unused (is.1.groups x n g own) in
                grind (arith, used, none)
            | inr before ↦ let ended = is.0.past x n g own before in grind (arith, ended, opened)
          ]
      orphan x (Region m) kind opened made =
          let same : Some m ≡ Some n = rw kind at made in
          let e : m ≡ n = grind (arith, same) in
          let own : (row s.rows x).kind ≡ Region n = kind ∙ ap Region e in
          let lives = open_lives x (row s.rows x).phase refl opened (at.well.on_makers.started x n own) in
          top_is_bare s slot n at.well at.live x lives.0 lives.1 own lives.2

same_row : (t : State) (m : ℕ) (f : Row → Row) → 1 ≤ m → m ≤ length t.rows → (f (row t.rows m)).kind ≡ (row t.rows m).kind → (f (row t.rows m)).job ≡ (row t.rows m).job →
    (f (row t.rows m)).phase ≡ (row t.rows m).phase → MakersStay t → is_open (row t.rows m).phase ≡ true → MakersStay (on_row t m f)
same_row t m f from to kind job_same phase is opened =
    MakersStay-set t m (f (row t.rows m)) from to kind job_same (λ now. ap is_open (sym phase) ∙ now)
    (λ closed x now made. absurd (let no : is_open (row t.rows m).phase ≡ false = ap is_open (sym phase) ∙ closed in grind (arith, no, opened))) is

-- the maker of a region that ended is open
pub done_kept_by : (s : State) (slot n : ℕ) → IsAt s slot n → (f : Frame) (v : ℤ) (k : Kind) → (row s.rows n).kind ≡ k → MakersStay (on_row s n (λ r. record r { frame = f; phase = Done v })) →
    MakersStay (hand_back (on_row s n (λ r. record r { frame = f; phase = Done v })) k v)
done_kept_by s slot n at f v Root kind is = is
done_kept_by s slot n at f v Posted kind is = is
done_kept_by s slot n at f v (Spawned m g) kind is = is
done_kept_by s slot n at f v (Region m) kind is =
    let t = on_row s n (λ r. record r { frame = f; phase = Done v }) in
    let r = record (row s.rows n) { frame = f; phase = Done v } in
    let there = made_there s at.well.linked n m (ap maker_of kind) in
    let apart : m ≢ n = omega (arith, there) in
    let below : (row s.rows m).phase ≡ Live slot (height s.rows slot - 1) = at.well.on_makers.below n m slot (height s.rows slot) kind at.live in
    let opened : is_open (row t.rows m).phase ≡ true = rw (row-with_other s.rows n m r at.from apart) (rw below refl) in
    same_row t m (λ q. record q { frame = handed_frame (instr_at (job t.jobs q.job).program q.frame) v q.frame }) there.2 (omega (arith, there, length-with s.rows n r)) refl refl refl is opened

-- rows of other jobs are not faulted
pub faulted_of : (s : State) (slot n : ℕ) → IsAt s slot n → IsTended s → (m : ℕ) → is_open (row s.rows m).phase ≡ true →
    is_open (row (map (faulted_row slot (task_height s.rows slot)) s.rows) m).phase ≡ false → (row s.rows m).job ≡ (row s.rows n).job
faulted_of s slot n at is m opened closed =
    let there = open_there s.rows m opened in
    let now : (row (map (faulted_row slot (task_height s.rows slot)) s.rows) m).phase ≡ faulted_phase slot (task_height s.rows slot) (row s.rows m).phase =
    ap (λ (r : Row). r.phase) (row-map (faulted_row slot (task_height s.rows slot)) s.rows m there.0 there.1) in
    by_phase (row s.rows m).phase refl opened (ap is_open (sym now) ∙ closed)
  where
    open_there : (rows : List Row) (m : ℕ) → is_open (row rows m).phase ≡ true → (1 ≤ m) × (m ≤ length rows)
    open_there rows m opened = elim (cases_eq m 0) [
      | inl none ↦ absurd (let no : is_open (row rows m).phase ≡ false = rw none refl in grind (arith, no, opened))
      | inr some ↦ elim (cases_lt (length rows) m) [
        | inl past ↦ absurd (let no : is_open (row rows m).phase ≡ false = rw (row-past rows m past) (nowhere_open m) in grind (arith, no, opened))
        | inr within ↦ (omega (arith, some), within)
      ]
    ]
      where
        nowhere_open : (m : ℕ) → is_open (row [] m).phase ≡ false
        nowhere_open zero = refl
        nowhere_open (suc m) = refl

    by_phase : (p : Phase) → (row s.rows m).phase ≡ p → is_open p ≡ true → is_open (faulted_phase slot (task_height s.rows slot) p) ≡ false → (row s.rows m).job ≡ (row s.rows n).job
    by_phase Unstarted phase was gone = absurd (let no : true ≡ false = gone in grind (arith, no))
    by_phase (Live t h) phase was gone = elim (either_way ((t == slot) && nat_le (task_height s.rows slot) h)) [
      | inl on ↦
          let here : t ≡ slot = grind (arith, on) in
          let above : task_height s.rows slot ≤ h = grind (arith, on) in
          let live : (row s.rows m).phase ≡ Live slot h = phase ∙ ap (λ u. Live u h) here in
          let low = live_low s.rows at.well.stacked m slot h live in
          same_job s.rows at.well.stacked at.well.on_makers is.shared slot n at.live (height s.rows slot - h) m h live above (omega (arith, low))
      | inr off ↦ absurd (let no : is_open (faulted_phase slot (task_height s.rows slot) (Live t h)) ≡ true = rw off refl in grind (arith, no, gone))
    ]
    by_phase (Done v) phase was gone = absurd (grind (arith, was))
    by_phase Dropped phase was gone = absurd (grind (arith, was))
    by_phase Faulted phase was gone = absurd (grind (arith, was))
