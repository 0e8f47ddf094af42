-- Changes of a state's rows and jobs that keep it tended.
use Rattle.std.proofs.Common.{◌≡◌, ℕ, zero, suc, ◌+◌, ◌<◌, ◌≤◌, List, [], ◌∷◌, ◌++◌, length, Some, None, Bool, true, false, refl, sym, ap, ◌∙◌, arith, inl, inr}
use Rattle.std.proofs.lemmas.Bool.{cases_eq, cases_lt}
use Rattle.std.proofs.lemmas.List.{length_push}
use Rattle.job_step.specs.Frame.{instr_at}
use Rattle.tenant_model.specs.declared.rows.Kind.{Kind}
use Rattle.tenant_model.specs.declared.rows.Kind.TheVariants.{Root, Spawned, Region}
use Rattle.tenant_model.specs.declared.rows.Phase.TheVariants.{Live}
use Rattle.tenant_model.specs.declared.rows.Row.{Row}
use Rattle.tenant_model.specs.declared.works.Work.{Work}
use Rattle.tenant_model.specs.State.{State, no_marks, row, job, with_at_number}
use Rattle.tenant_model.specs.Walks.{maker_of, is_unstarted, is_open, mark}
use Rattle.tenant_model.specs.Linked.{IsLinked}
use Rattle.tenant_model.specs.WellFormed.{AreMarked}
use Rattle.tenant_model.specs.Sound.{IsShaped, IsIsolate, IsTended}
use Rattle.tenant_model.proofs.Changed.{row-past, row-with_same, row-with_other, row-push_old, row-push_new, length-with}
use Rattle.tenant_model.proofs.Marked.{mark_in}

-- what holds of the row that is nowhere, and of those that are there, holds of all
pub every_row : (P : Row → Type 0) → P (row [] 0) → (rows : List Row) → ((n : ℕ) → 1 ≤ n → n ≤ length rows → P (row rows n)) → (n : ℕ) → P (row rows n)
every_row P nowhere rows there zero = nowhere
every_row P nowhere rows there (suc n) = elim (cases_lt (length rows) (suc n)) [
  | inl past ↦ rw (row-past rows (suc n) past) nowhere
  | inr within ↦ there (suc n) (omega arith) within
]

some_maker : (k : Kind) (m : ℕ) → maker_of k ≡ Some m → maker_of k ≡ None → ⊥
some_maker k m some none = let no : Some m ≡ None = sym some ∙ none in cc

-- a row that was made is there, and so is its maker, before it
pub made_there : (s : State) → IsLinked s → (n m : ℕ) → maker_of (row s.rows n).kind ≡ Some m → (1 ≤ n) × (n ≤ length s.rows) × (1 ≤ m) × (m < n)
made_there s linked zero m made = absurd (some_maker Root m made refl)
made_there s linked (suc n) m made = elim (cases_lt (length s.rows) (suc n)) [
  | inl past ↦ absurd (some_maker (row s.rows (suc n)).kind m made (rw (row-past s.rows (suc n) past) refl))
  | inr within ↦ let there : (1 ≤ m) × (m < suc n) = rw made at (linked.makers (suc n) (omega arith) within) in (omega arith, within, there.0, there.1)
]

spawned_maker : (k : Kind) (m g : ℕ) → k ≡ Spawned m g → maker_of k ≡ Some m
spawned_maker k m g is = ap maker_of is

region_maker : (k : Kind) (m : ℕ) → k ≡ Region m → maker_of k ≡ Some m
region_maker k m is = ap maker_of is

pub default_shaped : IsShaped (row [] 0)
default_shaped = record { registers = refl; marks = refl }

-- the rows are the same, but for some that have ended
pub record EndsSome (a b : List Row) : Type 0 where
  pub long : length b ≡ length a
  pub kinds : (n : ℕ) → (row b n).kind ≡ (row a n).kind
  pub jobs : (n : ℕ) → (row b n).job ≡ (row a n).job
  pub frames : (n : ℕ) → (row b n).frame ≡ (row a n).frame
  pub marks : (n : ℕ) → (row b n).marks ≡ (row a n).marks
  pub waits : (n : ℕ) → is_unstarted (row b n).phase ≡ true → is_unstarted (row a n).phase ≡ true
  pub opens : (n : ℕ) → is_open (row b n).phase ≡ true → is_open (row a n).phase ≡ true
  pub lives : (n slot h : ℕ) → (row b n).phase ≡ Live slot h → (row a n).phase ≡ Live slot h

-- what is not true before is not true after
fewer_true : (x y : Bool) → (y ≡ true → x ≡ true) → x ≡ false → y ≡ false
fewer_true x true fewer was = absurd (grind (arith, fewer refl, was))
fewer_true x false fewer was = refl

-- the jobs have the same programs and roots
pub record SameJobs (a b : List Work) : Type 0 where
  pub long : length b ≡ length a
  pub programs : (j : ℕ) → (job b j).program ≡ (job a j).program
  pub roots : (j : ℕ) → (job b j).root ≡ (job a j).root

pub IsTended-ends : (s : State) (rows : List Row) → EndsSome s.rows rows → IsTended s → IsTended (record s { rows = rows })
IsTended-ends s rows ends is = record {
  shared = λ n m made. ends.jobs n ∙ is.shared n m (sym (ap maker_of (ends.kinds n)) ∙ made) ∙ sym (ends.jobs m);
  started = λ n m made. fewer_true _ _ (ends.waits m) (is.started n m (sym (ap maker_of (ends.kinds n)) ∙ made));
  past = λ n m g kind old. fewer_true _ _ (ends.opens n)
      (is.past n m g (sym (ends.kinds n) ∙ kind) (let same : (mark rows m g).rows ≡ (mark s.rows m g).rows = ap (λ marks. (mark_in marks g).rows) (ends.marks m) in omega (arith, same, old)));
  shapes = λ n. record { registers = ap (λ f. length f.registers) (ends.frames n) ∙ (is.shapes n).registers; marks = ap length (ends.marks n) ∙ (is.shapes n).marks };
  slots = λ n slot h live. is.slots n slot h (ends.lives n slot h live);
  isolates = λ n m slot h kind live. rw (ends.jobs m, ends.frames m) (is.isolates n m slot h (sym (ends.kinds n) ∙ kind) (ends.lives n slot h live));
  roots = λ j from to.
      let root = is.roots j from to in
      record { from = root.from; to = omega (arith, root.to, ends.long); kind = ends.kinds _ ∙ root.kind; job = ends.jobs _ ∙ root.job };
  reserved = is.reserved;
}

pub IsTended-jobs : (s : State) (jobs : List Work) → SameJobs s.jobs jobs → IsTended s → IsTended (record s { jobs = jobs })
IsTended-jobs s jobs same is = record {
  shared = is.shared;
  started = is.started;
  past = is.past;
  shapes = is.shapes;
  slots = is.slots;
  isolates = λ n m slot h kind live. rw (same.programs (row s.rows m).job) (is.isolates n m slot h kind live);
  roots = λ j from to.
      let root = is.roots j from (omega (arith, to, same.long)) in
      let e = same.roots j in
      record { from = omega (arith, root.from, e); to = omega (arith, root.to, e); kind = ap (λ k. (row s.rows k).kind) e ∙ root.kind; job = ap (λ k. (row s.rows k).job) e ∙ root.job };
  reserved = is.reserved;
}

-- a row changed, of the same kind and job
pub record IsChangeOf (s : State) (n : ℕ) (r : Row) : Type 0 where
  pub from : 1 ≤ n
  pub to : n ≤ length s.rows
  pub kind : r.kind ≡ (row s.rows n).kind
  pub job : r.job ≡ (row s.rows n).job
  pub waits : is_unstarted r.phase ≡ true → is_unstarted (row s.rows n).phase ≡ true
  pub opens : is_open r.phase ≡ true → is_open (row s.rows n).phase ≡ true
  -- what is before its marks has ended
  pub past : (k g : ℕ) → (row s.rows k).kind ≡ Spawned n g → k ≤ (mark_in r.marks g).rows → is_open (row s.rows k).phase ≡ false
  pub shape : IsShaped r
  pub slots : (slot h : ℕ) → r.phase ≡ Live slot h → slot < s.config.slots
  -- a region on a slot was there before, and no region that it made is
  pub lives : (m slot h : ℕ) → r.kind ≡ Region m → r.phase ≡ Live slot h → (row s.rows n).phase ≡ Live slot h
  pub bare : (q slot h : ℕ) → (row s.rows q).kind ≡ Region n → (row s.rows q).phase ≡ Live slot h → ⊥

module _ (s : State) (n : ℕ) (r : Row) (change : IsChangeOf s n r) (linked : IsLinked s) where
  abbrev set_rows : List Row
  set_rows = with_at_number s.rows n r

  here : row set_rows n ≡ r
  here = row-with_same s.rows n r change.from change.to

  elsewhere : (m : ℕ) → (m ≡ n → ⊥) → row set_rows m ≡ row s.rows m
  elsewhere m other = row-with_other s.rows n m r change.from other

  kinds_set : (m : ℕ) → (row set_rows m).kind ≡ (row s.rows m).kind
  kinds_set m = elim (cases_eq m n) [
    | inl same ↦ rw same (ap (λ (q : Row). q.kind) here ∙ change.kind)
    | inr other ↦ ap (λ (q : Row). q.kind) (elsewhere m other)
  ]

  jobs_set : (m : ℕ) → (row set_rows m).job ≡ (row s.rows m).job
  jobs_set m = elim (cases_eq m n) [
    | inl same ↦ rw same (ap (λ (q : Row). q.job) here ∙ change.job)
    | inr other ↦ ap (λ (q : Row). q.job) (elsewhere m other)
  ]

  waits_set : (m : ℕ) → is_unstarted (row set_rows m).phase ≡ true → is_unstarted (row s.rows m).phase ≡ true
  waits_set m waits = elim (cases_eq m n) [
    | inl same ↦ rw same (change.waits (ap (λ (q : Row). is_unstarted q.phase) (sym (ap (row set_rows) same ∙ here)) ∙ waits))
    | inr other ↦ ap (λ (q : Row). is_unstarted q.phase) (sym (elsewhere m other)) ∙ waits
  ]

  opens_set : (m : ℕ) → is_open (row set_rows m).phase ≡ true → is_open (row s.rows m).phase ≡ true
  opens_set m opens = elim (cases_eq m n) [
    | inl same ↦ rw same (change.opens (ap (λ (q : Row). is_open q.phase) (sym (ap (row set_rows) same ∙ here)) ∙ opens))
    | inr other ↦ ap (λ (q : Row). is_open q.phase) (sym (elsewhere m other)) ∙ opens
  ]

  pub IsTended-set : IsTended s → IsTended (record s { rows = set_rows })
  IsTended-set is = record {
    shared = λ x m made. jobs_set x ∙ is.shared x m (sym (ap maker_of (kinds_set x)) ∙ made) ∙ sym (jobs_set m);
    started = λ x m made. fewer_true _ _ (waits_set m) (is.started x m (sym (ap maker_of (kinds_set x)) ∙ made));
    past = λ x m g kind old. fewer_true _ _ (opens_set x) (elim (cases_eq m n) [
      | inl same ↦
          let marks : (mark set_rows m g).rows ≡ (mark_in r.marks g).rows = ap (λ (q : Row). (mark_in q.marks g).rows) (ap (row set_rows) same ∙ here) in
          change.past x g (sym (kinds_set x) ∙ kind ∙ ap (λ k. Spawned k g) same) (omega (arith, marks, old))
      | inr other ↦
          let marks : (mark set_rows m g).rows ≡ (mark s.rows m g).rows = ap (λ (q : Row). (mark_in q.marks g).rows) (elsewhere m other) in
          is.past x m g (sym (kinds_set x) ∙ kind) (omega (arith, marks, old))
    ]);
    shapes = λ x. elim (cases_eq x n) [
      | inl same ↦ rw same (rw here change.shape)
      | inr other ↦ rw (elsewhere x other) (is.shapes x)
    ];
    slots = λ x slot h live. elim (cases_eq x n) [
      | inl same ↦ change.slots slot h (ap (λ (q : Row). q.phase) (sym (ap (row set_rows) same ∙ here)) ∙ live)
      | inr other ↦ is.slots x slot h (ap (λ (q : Row). q.phase) (sym (elsewhere x other)) ∙ live)
    ];
    isolates = λ x m slot h kind live.
        let kind_before : (row s.rows x).kind ≡ Region m = sym (kinds_set x) ∙ kind in
        let live_before : (row s.rows x).phase ≡ Live slot h = elim (cases_eq x n) [
          | inl same ↦ rw same (change.lives m slot h (change.kind ∙ ap (λ k. (row s.rows k).kind) (sym same) ∙ kind_before) (ap (λ (q : Row). q.phase) (sym (ap (row set_rows) same ∙ here)) ∙ live))
          | inr other ↦ ap (λ (q : Row). q.phase) (sym (elsewhere x other)) ∙ live
        ] in
        elim (cases_eq m n) [
          | inl same ↦ absurd (change.bare x slot h (kind_before ∙ ap Region same) live_before)
          | inr other ↦ rw (elsewhere m other) (is.isolates x m slot h kind_before live_before)
        ];
    roots = λ j from to.
        let root = is.roots j from to in
        record { from = root.from; to = omega (arith, root.to, length-with s.rows n r); kind = kinds_set _ ∙ root.kind; job = jobs_set _ ∙ root.job };
    reserved = is.reserved;
  }

-- a new row, whose maker has started and is of its job
pub record IsNewIn (s : State) (r : Row) : Type 0 where
  pub shared : (m : ℕ) → maker_of r.kind ≡ Some m → (m ≤ length s.rows) × (r.job ≡ (row s.rows m).job) × (is_unstarted (row s.rows m).phase ≡ false)
  pub shape : IsShaped r
  pub marks : r.marks ≡ no_marks
  pub slots : (slot h : ℕ) → r.phase ≡ Live slot h → slot < s.config.slots
  pub isolate : (m slot h : ℕ) → r.kind ≡ Region m → r.phase ≡ Live slot h → IsIsolate (instr_at (job s.jobs (row s.rows m).job).program (row s.rows m).frame)

no_mark : (g : ℕ) → (mark_in no_marks g).rows ≡ 0
no_mark zero = refl
no_mark (suc zero) = refl
no_mark (suc (suc zero)) = refl
no_mark (suc (suc (suc zero))) = refl
no_mark (suc (suc (suc (suc g)))) = refl

module _ (s : State) (r : Row) (new : IsNewIn s r) (linked : IsLinked s) (marked : AreMarked s.rows) where
  abbrev more_rows : List Row
  more_rows = s.rows ++ r ∷ []

  -- a row of the longer list is the new one, or one that was there
  by_age : (P : ℕ → Row → Type 0) → P (length s.rows + 1) r → ((n : ℕ) → P n (row s.rows n)) → (n : ℕ) → P n (row more_rows n)
  by_age P at_new at_old n = elim (cases_lt (length s.rows) n) [
    | inl after ↦ elim (cases_eq n (length s.rows + 1)) [
      | inl is ↦ rw (row-push_new s.rows n r is, is) at_new
      | inr past ↦
          let beyond : row more_rows n ≡ row s.rows n = row-past more_rows n (omega (arith, after, past, length_push s.rows r)) ∙ sym (row-past s.rows n after) in
          rw beyond (at_old n)
    ]
    | inr before ↦ rw (row-push_old s.rows n r before) (at_old n)
  ]

  old : (m : ℕ) → m ≤ length s.rows → row more_rows m ≡ row s.rows m
  old m there = row-push_old s.rows m r there

  pub IsTended-push : IsTended s → IsTended (record s { rows = more_rows })
  IsTended-push is = record {
    shared = by_age (λ n (q : Row). (m : ℕ) → maker_of q.kind ≡ Some m → q.job ≡ (row more_rows m).job)
        (λ m made. let its = new.shared m made in its.1 ∙ ap (λ (q : Row). q.job) (sym (old m its.0)))
        (λ n m made. let there = made_there s linked n m made in is.shared n m made ∙ ap (λ (q : Row). q.job) (sym (old m (omega (arith, there)))));
    started = by_age (λ n (q : Row). (m : ℕ) → maker_of q.kind ≡ Some m → is_unstarted (row more_rows m).phase ≡ false)
        (λ m made. let its = new.shared m made in rw (old m its.0) its.2)
        (λ n m made. let there = made_there s linked n m made in rw (old m (omega (arith, there))) (is.started n m made));
    past = by_age (λ n (q : Row). (m g : ℕ) → q.kind ≡ Spawned m g → n ≤ (mark more_rows m g).rows → is_open q.phase ≡ false)
        (λ m g kind before.
        let its = new.shared m (spawned_maker r.kind m g kind) in
        let same : (mark more_rows m g).rows ≡ (mark s.rows m g).rows = ap (λ (q : Row). (mark_in q.marks g).rows) (old m its.0) in
        absurd (omega (arith, before, same, marked m g)))
        (λ n m g kind before.
        let there = made_there s linked n m (spawned_maker (row s.rows n).kind m g kind) in
        let same : (mark more_rows m g).rows ≡ (mark s.rows m g).rows = ap (λ (q : Row). (mark_in q.marks g).rows) (old m (omega (arith, there))) in
        is.past n m g kind (omega (arith, before, same)));
    shapes = by_age (λ n q. IsShaped q) new.shape is.shapes;
    slots = by_age (λ n (q : Row). (slot h : ℕ) → q.phase ≡ Live slot h → slot < s.config.slots) new.slots is.slots;
    isolates = by_age (λ n (q : Row). (m slot h : ℕ) → q.kind ≡ Region m → q.phase ≡ Live slot h → IsIsolate (instr_at (job s.jobs (row more_rows m).job).program (row more_rows m).frame))
        (λ m slot h kind live. let its = new.shared m (region_maker r.kind m kind) in rw (old m its.0) (new.isolate m slot h kind live))
        (λ n m slot h kind live. let there = made_there s linked n m (region_maker (row s.rows n).kind m kind) in rw (old m (omega (arith, there))) (is.isolates n m slot h kind live));
    roots = λ j from to.
        let root = is.roots j from to in
        record {
          from = root.from;
          to = omega (arith, root.to, length_push s.rows r);
          kind = ap (λ (q : Row). q.kind) (old _ root.to) ∙ root.kind;
          job =
              ap (λ (q : Row). q.job) (old _ root.to) ∙ root.job;
        };
    reserved = is.reserved;
  }
