-- Changes that keep a state well formed.
use Rattle.std.proofs.Common.{◌≡◌, ℕ, ◌+◌, ◌-◌, ◌==◌, ◌<◌, ◌≤◌, List, [], ◌∷◌, length, Some, Bool, true, false, ◌&&◌, refl, sym, ap, ◌∙◌, arith, inl, inr, map}
use Rattle.std.specs.Prelude.{IfSome, nat_le}
use Rattle.tenant_model.specs.declared.rows.Kind.{Kind}
use Rattle.tenant_model.specs.declared.rows.Kind.TheVariants.{Region}
use Rattle.tenant_model.specs.declared.rows.Phase.{Phase}
use Rattle.tenant_model.specs.declared.rows.Phase.TheVariants.{Unstarted, Live, Done, Dropped, Faulted}
use Rattle.tenant_model.specs.declared.rows.Row.{Row}
use Rattle.tenant_model.specs.declared.rows.TheConstants.{MAX_HEIGHT}
use Rattle.tenant_model.specs.declared.works.Work.{Work}
use Rattle.tenant_model.specs.State.{State, no_marks, row, job, with_at_number}
use Rattle.tenant_model.specs.Walks.{maker_of, is_region, is_within, is_unstarted, is_open, is_live_at, height, settle}
use Rattle.tenant_model.specs.Changes.{open_rows, on_row, on_job, add_row, entry, task_height, faulted_row, faulted_phase}
use Rattle.tenant_model.specs.WellFormed.{IsWellFormed}
use Rattle.tenant_model.proofs.Within.{either_way}
use Rattle.tenant_model.proofs.Changed.{row-map, length-with}
use Rattle.tenant_model.proofs.Linked.{IsLinked-same, IsLinked-set, IsLinked-push, IsLinked-more_jobs, SameSources-map}
use Rattle.tenant_model.proofs.Stacking.{one_if, count-cons, count-push, AreStacked-same, AreStacked-pushed, AreStacked-cut}
use Rattle.tenant_model.proofs.Stacked.{IsOff, AreSame-set, IsPushed-set, IsCut-set, AreSame-push, IsPushed-push}
use Rattle.tenant_model.proofs.Faulting.{AreSame-settle, IsCut-faults}
use Rattle.tenant_model.proofs.Insides.{live_there, AreInside-fewer}
use Rattle.tenant_model.proofs.Marked.{mark_in, AreMarked-settle, AreMarked-set, AreMarked-push, AreMarked-map}
use Rattle.tenant_model.proofs.OnMakers.{StandOnMakers-fewer, waits_there, StartFewer-settle, StartFewer-set, StartFewer-done, StandOnMakers-nest, StandOnMakers-push}
use Rattle.tenant_model.proofs.Parts.{SameSources-settle, settle-lives, open-settle, AreInside-set, AreInside-set_top, AreInside-push, AreInside-push_top, open-set, off_live, same_place}

pub one_at_most : (b : Bool) → one_if b ≤ 1
one_at_most true = omega arith
one_at_most false = omega arith

closed_started : (p : Phase) → is_open p ≡ false → is_unstarted p ≡ false
closed_started Unstarted closed = absurd (grind (arith, closed))
closed_started (Live t h) closed = refl
closed_started (Done v) closed = refl
closed_started Dropped closed = refl
closed_started Faulted closed = refl

off_waits : (p : Phase) → IsOff p → is_open p ≡ true → is_unstarted p ≡ true
off_waits Unstarted off opened = refl
off_waits (Live t h) off opened = absurd (off_live off refl)
off_waits (Done v) off opened = absurd (grind (arith, opened))
off_waits Dropped off opened = absurd (grind (arith, opened))
off_waits Faulted off opened = absurd (grind (arith, opened))

pub no_such_region : (k : Kind) (m : ℕ) → is_region k ≡ false → k ≡ Region m → ⊥
no_such_region k m no_region is = let yes : is_region k ≡ true = rw is refl in grind (arith, no_region, yes)

same_some : (n m : ℕ) → Some n ≡ Some m → n ≡ m
same_some n m same = grind (arith, same)

-- the state settles
pub settle_kept : (s : State) → IsWellFormed s → IsWellFormed (settle s)
settle_kept s is = record {
  linked = IsLinked-same s (settle s) (SameSources-settle s) refl is.linked.epoch is.linked;
  stacked = AreStacked-same s.rows (settle s).rows (AreSame-settle s) is.stacked;
  inside = AreInside-fewer s.rows (settle s).rows (SameSources-settle s).kinds (settle-lives s) is.inside;
  on_makers = StandOnMakers-fewer s.rows (settle s).rows (StartFewer-settle s) is.on_makers;
  marked = AreMarked-settle s is.marked;
  limit = omega (arith, open-settle s, is.limit);
  table = is.table;
  slots = is.slots;
}

-- an entry is counted
pub entry_kept : (s : State) → IsWellFormed s → IsWellFormed (entry s)
entry_kept s is = settle_kept (record s { entries = s.entries + 1 }) (record {
  linked = record { makers = is.linked.makers; jobs = is.linked.jobs; epoch = omega (arith, is.linked.epoch) };
  stacked = is.stacked;
  inside = is.inside;
  on_makers = is.on_makers;
  marked = is.marked;
  limit = is.limit;
  table = is.table;
  slots = is.slots;
})

-- a job changed
pub on_job_kept : (s : State) (j : ℕ) (f : Work → Work) → IsWellFormed s → IsWellFormed (on_job s j f)
on_job_kept s j f is = record {
  linked = IsLinked-more_jobs s (with_at_number s.jobs j (f (job s.jobs j))) (omega (arith, length-with s.jobs j (f (job s.jobs j)))) is.linked;
  stacked = is.stacked;
  inside = is.inside;
  on_makers = is.on_makers;
  marked = is.marked;
  limit = is.limit;
  table = is.table;
  slots = is.slots;
}

module _ (s : State) (n : ℕ) (f : Row → Row) (from : 1 ≤ n) (to : n ≤ length s.rows) (kind : (f (row s.rows n)).kind ≡ (row s.rows n).kind) (job : (f (row s.rows n)).job ≡ (row s.rows n).job)
    (marks : (g : ℕ) → (mark_in (f (row s.rows n)).marks g).rows ≤ length s.rows) where
  -- a row changed, in the same phase
  pub on_row_kept : (f (row s.rows n)).phase ≡ (row s.rows n).phase → IsWellFormed s → IsWellFormed (on_row s n f)
  on_row_kept phase is =
      let r = f (row s.rows n) in
      record {
        linked = IsLinked-set s n r from to kind job is.linked;
        stacked = AreStacked-same s.rows _ (AreSame-set s.rows n r from to phase) is.stacked;
        inside = AreInside-set s.rows n r from to kind (λ slot h live. sym phase ∙ live) is.inside;
        on_makers = StandOnMakers-fewer s.rows _ (StartFewer-set s.rows n r from to kind phase) is.on_makers;
        marked = AreMarked-set s.rows n r from to marks is.marked;
        limit = let same : one_if (is_open r.phase) ≡ one_if (is_open (row s.rows n).phase) = ap (λ p. one_if (is_open p)) phase in
            omega (arith, open-set s.rows n r from to kind (omega (arith, same)), is.limit);
        table = is.table;
        slots = is.slots;
      }

  -- the topmost row done
  pub done_kept : (slot : ℕ) → (row s.rows n).phase ≡ Live slot (height s.rows slot) → IsOff (f (row s.rows n)).phase → is_open (f (row s.rows n)).phase ≡ false → 1 ≤ height s.rows slot →
      IsWellFormed s → IsWellFormed (on_row s n f)
  done_kept slot live off closed some is =
      let r = f (row s.rows n) in
      record {
        linked = IsLinked-set s n r from to kind job is.linked;
        stacked = AreStacked-cut s.rows _ slot (height s.rows slot) (IsCut-set s.rows n r from to slot live off some is.stacked) is.stacked;
        inside = AreInside-set s.rows n r from to kind (λ t h live. absurd (off_live off live)) is.inside;
        on_makers = StandOnMakers-fewer s.rows _ (StartFewer-done s.rows n r from to kind slot live off (closed_started r.phase closed) is.stacked) is.on_makers;
        marked = AreMarked-set s.rows n r from to marks is.marked;
        limit = let none : one_if (is_open r.phase) ≡ 0 = rw closed refl in omega (arith, open-set s.rows n r from to kind (omega (arith, none)), is.limit);
        table = is.table;
        slots = is.slots;
      }

  -- an open row on top of a slot now
  pub nest_kept : (slot : ℕ) → IsOff (row s.rows n).phase → is_open (row s.rows n).phase ≡ true → (f (row s.rows n)).phase ≡ Live slot (height s.rows slot + 1) → height s.rows slot < MAX_HEIGHT →
      ((x low q : ℕ) → (row s.rows x).phase ≡ Live slot low → is_region (row s.rows q).kind ≡ true → is_within s.rows x q ≡ true → is_within s.rows n q ≡ true) → IsWellFormed s →
      IsWellFormed (on_row s n f)
  nest_kept slot off opened live room fits is =
      let r = f (row s.rows n) in
      record {
        linked = IsLinked-set s n r from to kind job is.linked;
        stacked = AreStacked-pushed s.rows _ slot (IsPushed-set s.rows n r from to slot off live) room is.stacked;
        inside = AreInside-set_top s.rows n r from to kind slot is.linked.makers is.stacked live fits is.inside;
        on_makers = StandOnMakers-nest s.rows n r from to kind off (off_waits (row s.rows n).phase off opened) (rw live refl) is.on_makers;
        marked = AreMarked-set s.rows n r from to marks is.marked;
        limit = let one : one_if (is_open r.phase) ≡ one_if (is_open (row s.rows n).phase) = rw (live, opened) refl in omega (arith, open-set s.rows n r from to kind (omega (arith, one)), is.limit);
        table = is.table;
        slots = is.slots;
      }

module _ (s : State) (r : Row) (maker : IfSome (maker_of r.kind) (λ m. (1 ≤ m) × (m ≤ length s.rows))) (job : (1 ≤ r.job) × (r.job ≤ length s.jobs)) (room : open_rows s.rows < s.config.rows)
    (none : r.marks ≡ no_marks) where
  -- a new row that has not started
  pub add_row_kept : is_region r.kind ≡ false → IsOff r.phase → IsWellFormed s → IsWellFormed (add_row s r)
  add_row_kept no_region off is =
      let linked = IsLinked-push s r is.linked maker job in
      record {
        linked = linked;
        stacked = AreStacked-same s.rows _ (AreSame-push s.rows r off) is.stacked;
        inside = AreInside-push s.rows r is.linked.makers linked.makers is.stacked off is.inside;
        on_makers = StandOnMakers-push s.rows r (λ m kind. absurd (no_such_region r.kind m no_region kind)) (λ m slot h kind live. absurd (no_such_region r.kind m no_region kind)) is.on_makers;
        marked = AreMarked-push s.rows r none is.marked;
        limit = omega (arith, room, count-push (λ (x : Row). is_open x.phase) s.rows r, one_at_most (is_open r.phase));
        table = is.table;
        slots = is.slots;
      }

  -- a region on top of its maker
  pub add_region_kept : (slot n : ℕ) → r.phase ≡ Live slot (height s.rows slot + 1) → height s.rows slot < MAX_HEIGHT → maker_of r.kind ≡ Some n →
      (row s.rows n).phase ≡ Live slot (height s.rows slot) → IsWellFormed s → IsWellFormed (add_row s r)
  add_region_kept slot n live low made top is =
      let linked = IsLinked-push s r is.linked maker job in
      record {
        linked = linked;
        stacked = AreStacked-pushed s.rows _ slot (IsPushed-push s.rows r slot live) low is.stacked;
        inside = AreInside-push_top s.rows r is.linked.makers linked.makers slot n is.stacked live made top is.inside;
        on_makers = StandOnMakers-push s.rows r (λ m kind. rw live refl) (λ m t h kind on.
            let place = same_place slot (height s.rows slot + 1) t h (sym live ∙ on) in
            let maker : n ≡ m = same_some n m (sym made ∙ ap maker_of kind) in
            let below : height s.rows slot ≡ h - 1 = omega (arith, place) in
            rw (sym maker, sym place.0, sym below) top) is.on_makers;
        marked = AreMarked-push s.rows r none is.marked;
        limit = omega (arith, room, count-push (λ (x : Row). is_open x.phase) s.rows r, one_at_most (is_open r.phase));
        table = is.table;
        slots = is.slots;
      }

faulted_lives : (slot from : ℕ) (p : Phase) (t h : ℕ) → faulted_phase slot from p ≡ Live t h → p ≡ Live t h
faulted_lives slot from Unstarted t h live = live
faulted_lives slot from (Live u k) t h live = elim (either_way ((u == slot) && nat_le from k)) [
  | inl gone ↦
      let no : Faulted ≡ Live t h = rw gone at live in
      absurd (grind (arith, ap (is_live_at t h) no))
  | inr kept ↦ rw kept at live
]
faulted_lives slot from (Done v) t h live = live
faulted_lives slot from Dropped t h live = live
faulted_lives slot from Faulted t h live = live

faulted_started : (slot from : ℕ) (p : Phase) → is_unstarted p ≡ false → is_unstarted (faulted_phase slot from p) ≡ false
faulted_started slot from Unstarted started = started
faulted_started slot from (Live u k) started = elim (either_way ((u == slot) && nat_le from k)) [
  | inl gone ↦ rw gone refl
  | inr kept ↦ rw kept refl
]
faulted_started slot from (Done v) started = refl
faulted_started slot from Dropped started = refl
faulted_started slot from Faulted started = refl

-- what stands below a row that stays
faulted_below : (slot from t h : ℕ) → faulted_phase slot from (Live t h) ≡ Live t h → faulted_phase slot from (Live t (h - 1)) ≡ Live t (h - 1)
faulted_below slot from t h kept = elim (either_way ((t == slot) && nat_le from (h - 1))) [
  | inl gone ↦
      let above : ((t == slot) && nat_le from h) ≡ true = grind (arith, gone) in
      let no : Faulted ≡ Live t h = rw above at kept in
      absurd (grind (arith, ap (is_live_at t h) no))
  | inr stays ↦ rw stays refl
]

faulted_open : (slot from : ℕ) (p : Phase) → one_if (is_open (faulted_phase slot from p)) ≤ one_if (is_open p)
faulted_open slot from Unstarted = omega arith
faulted_open slot from (Live u k) = one_at_most (is_open (faulted_phase slot from (Live u k)))
faulted_open slot from (Done v) = omega arith
faulted_open slot from Dropped = omega arith
faulted_open slot from Faulted = omega arith

faulted_fewer : (slot from : ℕ) (rows : List Row) → open_rows (map (faulted_row slot from) rows) ≤ open_rows rows
faulted_fewer slot from [] = omega arith
faulted_fewer slot from (x ∷ xs) =
    let p : Row → Bool = λ r. is_open r.phase in
    omega (arith, count-cons p (faulted_row slot from x) (map (faulted_row slot from) xs), count-cons p x xs, faulted_open slot from x.phase, faulted_fewer slot from xs)

-- a slot's rows down to the first that is no region are faulted
pub faulted_kept : (s : State) (slot : ℕ) → IsWellFormed s → IsWellFormed (record s { rows = map (faulted_row slot (task_height s.rows slot)) s.rows })
faulted_kept s slot is =
    let from = task_height s.rows slot in
    let rows = map (faulted_row slot from) s.rows in
    let same = SameSources-map (faulted_row slot from) s.rows (λ r. refl) (λ r. refl) in
    let lives : (n t h : ℕ) → (row rows n).phase ≡ Live t h → (row s.rows n).phase ≡ Live t h = λ n t h live.
    let there = live_there rows n t h live in
    let to : n ≤ length s.rows = omega (arith, there, same.long) in
    faulted_lives slot from (row s.rows n).phase t h (ap (λ (r : Row). r.phase) (sym (row-map (faulted_row slot from) s.rows n there.0 to)) ∙ live) in
    record {
      linked = IsLinked-same s (record s { rows = rows }) same refl is.linked.epoch is.linked;
      stacked = AreStacked-cut s.rows rows slot from (IsCut-faults s.rows is.stacked slot) is.stacked;
      inside = AreInside-fewer s.rows rows same.kinds lives is.inside;
      on_makers = StandOnMakers-fewer s.rows rows (record {
        kinds = same.kinds;
        waits = λ n waits. elim (either_way (is_unstarted (row s.rows n).phase)) [
          | inl before ↦ before
          | inr started ↦
              let there = waits_there rows n waits in
              let here = row-map (faulted_row slot from) s.rows n there.0 (omega (arith, there, same.long)) in
              absurd (grind (arith, waits, faulted_started slot from (row s.rows n).phase started, ap (λ (r : Row). is_unstarted r.phase) here))
        ];
        lives = lives;
        stays = λ n m t h live below.
            let there = live_there s.rows m t (h - 1) below in
            let before = lives n t h live in
            let there_n = live_there s.rows n t h before in
            let kept : faulted_phase slot from (Live t h) ≡ Live t h =
            ap (faulted_phase slot from) (sym before) ∙ ap (λ (r : Row). r.phase) (sym (row-map (faulted_row slot from) s.rows n there_n.0 there_n.1)) ∙ live in
            ap (λ (r : Row). r.phase) (row-map (faulted_row slot from) s.rows m there.0 there.1) ∙ ap (faulted_phase slot from) below ∙ faulted_below slot from t h kept;
      }) is.on_makers;
      marked = AreMarked-map (faulted_row slot from) s.rows (λ r. refl) is.marked;
      limit = omega (arith, faulted_fewer slot from s.rows, is.limit);
      table = is.table;
      slots = is.slots;
    }
