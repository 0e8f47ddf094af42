-- Rows that a row of a serial job makes: spawned ones and regions.
use Rattle.std.proofs.Common.{◌≡◌, ℕ, zero, suc, ◌+◌, ◌==◌, ◌<◌, ◌≤◌, List, [], ◌∷◌, length, Option, Some, None, Bool, true, false, ◌&&◌, nat_lt, refl, ap, ◌∙◌, arith, inl, inr, ℤ, pos, unwrap_or}
use Rattle.std.specs.Prelude.{if◌then◌else◌, slice_set, slice_index_or, IfSome}
use Rattle.std.specs.Int.{int_wrapping_add, w64}
use Rattle.std.proofs.lemmas.Bool.{cases_eq}
use Rattle.job_language.specs.declared.instructions.Instr.{Instr}
use Rattle.job_language.specs.declared.instructions.Instr.TheVariants.{Spawn, Isolate}
use Rattle.job_step.specs.declared.frames.Frame.{Frame}
use Rattle.job_step.specs.Frame.{instr_at, write_and_step}
use Rattle.tenant_model.specs.declared.rows.Kind.{Kind}
use Rattle.tenant_model.specs.declared.rows.Kind.TheVariants.{Root, Posted, Spawned, Region}
use Rattle.tenant_model.specs.declared.rows.Row.{Row}
use Rattle.tenant_model.specs.declared.serials.SerialTask.{SerialTask}
use Rattle.tenant_model.specs.declared.serials.ValueTo.TheVariants as to
use Rattle.tenant_model.specs.Serial.{new_task, turn_at}
use Rattle.tenant_model.specs.Shared.{next_place, called_frame, handed_frame}
use Rattle.tenant_model.specs.State.{row}
use Rattle.tenant_model.specs.Walks.{maker_of, is_open, is_spawned_by, mark}
use Rattle.tenant_model.specs.Linked.{MakersPrecede}
use Rattle.tenant_model.specs.WellFormed.{AreMarked}
use Rattle.serial_law.proofs.SerialGiving.{Gives, task, GoesBack, gives_makes}
use Rattle.serial_law.proofs.SerialNow.{fold_to, fold_to-rest, Values, value_by, is_region_by, is_made_by, counts, added, add_row_to, sum_for, is_held_by, hand_from, hands_for, sums_of, now, cost_of}
use Rattle.serial_law.proofs.SerialNow.{cost_for, Leads, sum-old, hands-old}
use Rattle.serial_law.proofs.SerialMoves.{IsMoved, moved-alike, moved-regions, moved-costs, Leads-moved, IsFree, free-none}

-- a maker stands before what it made
made_before : (k : Kind) (n last : ℕ) → IfSome (maker_of k) (λ m. (1 ≤ m) × (m < n)) → n ≤ last → is_made_by last k ≡ false
made_before Root n last before le = refl
made_before Posted n last before le = refl
made_before (Spawned m g) n last before le = grind (arith, before.1, le)
made_before (Region m) n last before le = grind (arith, before.1, le)

none_spawned : (p g : ℕ) (k : Kind) → is_made_by p k ≡ false → is_spawned_by p g k ≡ false
none_spawned p g Root none = refl
none_spawned p g Posted none = refl
none_spawned p g (Spawned m h) none = rw none refl
none_spawned p g (Region m) none = refl

none_region : (p : ℕ) (k : Kind) → is_made_by p k ≡ false → is_region_by p k ≡ false
none_region p Root none = refl
none_region p Posted none = refl
none_region p (Spawned m h) none = refl
none_region p (Region m) none = none

false_and : (b c : Bool) → (b && (false && c)) ≡ false
false_and true c = refl
false_and false c = refl

false_end : (b c : Bool) → (b && (c && false)) ≡ false
false_end true true = refl
false_end true false = refl
false_end false c = refl

-- a row that made nothing
module _ (j m : ℕ) (rows : List Row) (none : (k : ℕ) → 1 ≤ k → k ≤ length rows → (row rows k).job ≡ j → is_made_by m (row rows k).kind ≡ false) where
  pub sum-childless : (values : Values) (g from : ℕ) → sum_for j rows values m g from ≡ None
  sum-childless values g from = fold_to-rest (add_row_to j rows values m g from) None 0 (length rows) (omega arith) (λ k x least most.
      elim (cases_eq (row rows k).job j) [
        | inl own ↦ rw (none_spawned m g (row rows k).kind (none k least most own), false_and ((row rows k).job == j) (nat_lt from k)) refl
        | inr other ↦ let e : ((row rows k).job == j) ≡ false = grind (arith, other) in rw e refl
      ])

  pub hands-childless : (values : Values) → hands_for j rows values m ≡ None
  hands-childless values = fold_to-rest (hand_from j rows values m) None 0 (length rows) (omega arith) (λ k x least most.
      elim (cases_eq (row rows k).job j) [
        | inl own ↦ rw (none_region m (row rows k).kind (none k least most own), false_end (is_open (row rows k).phase) ((row rows k).job == j)) refl
        | inr other ↦ let e : ((row rows k).job == j) ≡ false = grind (arith, other) in rw (e, false_and (is_open (row rows k).phase) (is_region_by m (row rows k).kind)) refl
      ])

  pub now-childless : (procs : List (List Instr)) (values : Values) → now procs j rows values m ≡ new_task (row rows m).frame
  now-childless procs values = rw (hands-childless values, sum-childless values 0, sum-childless values 1, sum-childless values 2, sum-childless values 3) refl

-- the sums of a task that spawned into group g
spawned_sums : (g : ℕ) → g < 4 → (x0 x1 x2 x3 : Option ℤ) (v : ℤ) →
    (added (g == 0) x0 v ∷ added (g == 1) x1 v ∷ added (g == 2) x2 v ∷ added (g == 3) x3 v ∷ []) ≡
    slice_set (x0 ∷ x1 ∷ x2 ∷ x3 ∷ []) g (Some (int_wrapping_add w64 (unwrap_or (slice_index_or (x0 ∷ x1 ∷ x2 ∷ x3 ∷ []) g None) (pos 0)) v))
spawned_sums zero low x0 x1 x2 x3 v = refl
spawned_sums (suc zero) low x0 x1 x2 x3 v = refl
spawned_sums (suc (suc zero)) low x0 x1 x2 x3 v = refl
spawned_sums (suc (suc (suc zero))) low x0 x1 x2 x3 v = refl
spawned_sums (suc (suc (suc (suc g)))) low x0 x1 x2 x3 v = absurd (omega (arith, low))

-- Row n made a row.
pub record HasMade (j n : ℕ) (a b : List Row) (r : Row) : Type 0 where
  pub moved : IsMoved n a b
  pub own : (row a n).job ≡ j
  pub opened : is_open (row a n).phase ≡ true
  pub free : IsFree j n a
  pub long : length b ≡ suc (length a)
  pub last : row b (suc (length a)) ≡ r
  pub its : r.job ≡ j
  pub opens : is_open r.phase ≡ true
  pub makers : MakersPrecede b
  pub marks : (row b n).marks ≡ (row a n).marks
  pub marked : AreMarked a

module _ (procs : List (List Instr)) (start : SerialTask) (j root n : ℕ) (a b : List Row) (r : Row) (made : HasMade j n a b r) where
  abbrev new : ℕ
  new = suc (length a)

  sum-last : (values : Values) (g from : ℕ) → sum_for j b values n g from ≡ added (counts j n g from new r) (sum_for j a values n g from) (value_by r.phase (values new))
  sum-last values g from =
      ap (fold_to (add_row_to j b values n g from) None) made.long ∙
      ap (λ (q : Row). added (counts j n g from new q) (fold_to (add_row_to j b values n g from) None (length a)) (value_by q.phase (values new))) made.last ∙
      ap (λ x. added (counts j n g from new r) x (value_by r.phase (values new))) (sum-old j n a b values values (moved-alike j n a b made.moved n values) g from)

  hands-last : (values : Values) → hands_for j b values n ≡ (if is_held_by j n r then Some (value_by r.phase (values new)) else None)
  hands-last values =
      ap (fold_to (hand_from j b values n) None) made.long ∙
      ap (λ (q : Row). if is_held_by j n q then Some (value_by q.phase (values new)) else fold_to (hand_from j b values n) None (length a)) made.last ∙
      ap (λ x. if is_held_by j n r then Some (value_by r.phase (values new)) else x)
      (hands-old j n a b values values (moved-alike j n a b made.moved n values) (moved-regions j n a b made.moved n) ∙ free-none j n a values made.free)

  now-last : (values : Values) → now procs j b values new ≡ new_task r.frame
  now-last values = now-childless j new b (λ k from to own. made_before (row b k).kind k new (made.makers k from to) (omega (arith, to, made.long))) procs values ∙
      ap (λ (q : Row). new_task q.frame) made.last

  mine : (r.job == j) ≡ true
  mine = grind (arith, made.its)

  worth : (values : Values) → value_by r.phase (values new) ≡ values new
  worth values = rw made.opens refl

  -- Row n made the row by one instruction more than its run has.
  Leads-made : (spent count : ℕ) → 1 ≤ root → root ≤ length a →
      ((values : Values) (d e : ℕ) → Gives procs (new_task r.frame) (values new) d → Gives procs (now procs j b values n) (values n) e →
      Gives procs (task (row a n).frame (sums_of j a values n)) (values n) (d + e + 1 + count)) →
      Leads procs start j root a spent → Leads procs start j root b (spent + (count + 1))
  Leads-made spent count least most back leads =
      Leads-moved procs start j root n a b made.moved made.own made.opened spent (count + 1) (λ costs. costs new + 1 + count) least most
      (λ costs.
      let cost = moved-costs j n a b made.moved costs (costs new + 1 + count) made.own made.opened in
      let one : cost_of j costs new r ≡ costs new = rw (made.opens, mine) refl in
      let e : cost_for j b costs ≡ fold_to (λ k x. x + cost_of j costs k (row b k)) 0 (length a) + cost_of j costs new r =
      ap (fold_to (λ k x. x + cost_of j costs k (row b k)) 0) made.long ∙ ap (λ (q : Row). fold_to (λ k x. x + cost_of j costs k (row b k)) 0 (length a) + cost_of j costs new q) made.last in
      omega (arith, cost, e, one))
      (λ values costs given.
      let child = given.each new (omega arith) (omega (arith, made.long)) (rw made.last made.its) (rw made.last made.opens) in
      let here = given.each n made.moved.from (omega (arith, made.moved.to, made.moved.long)) (made.moved.job ∙ made.own) (ap is_open made.moved.phase ∙ made.opened) in
      let all = back values (costs new) (costs n) (rw (now-last values) at child) here in
      let e : costs n + (costs new + 1 + count) ≡ costs new + costs n + 1 + count = omega arith in
      rw (free-none j n a values made.free, e) all)
      leads

  -- a spawn
  pub Leads-spawned : (g p x y : ℕ) (f : Frame) (count spent : ℕ) → 1 ≤ root → root ≤ length a → GoesBack procs (row a n).frame f count → instr_at procs f ≡ Some (Spawn g p x y) → g < 4 →
      (row b n).frame ≡ next_place f → r.kind ≡ Spawned n g → r.frame ≡ called_frame f p x y → Leads procs start j root a spent → Leads procs start j root b (spent + (count + 1))
  Leads-spawned g p x y f count spent least most goes_back at low frame kind child leads = Leads-made spent count least most (λ values d e first second.
      let sums = sums_of j a values n in
      let is_counted : (h : ℕ) → counts j n h (mark a n h).rows new r ≡ (g == h) = λ h.
      let below : nat_lt (mark a n h).rows new ≡ true = grind (arith, made.marked n h) in
      let self : (n == n) ≡ true = grind arith in
      rw (kind, mine, self, below) (and_true (g == h)) in
      let sum : (h : ℕ) → sum_for j b values n h (mark a n h).rows ≡ added (g == h) (sum_for j a values n h (mark a n h).rows) (values new) = λ h.
      sum-last values h (mark a n h).rows ∙ rw (is_counted h, worth values) refl in
      let not_held : is_held_by j n r ≡ false = rw kind (false_end (is_open r.phase) (r.job == j)) in
      let handed_none : hands_for j b values n ≡ None = hands-last values ∙ rw not_held refl in
      let same : now procs j b values n ≡ task (next_place f) (slice_set sums g (Some (int_wrapping_add w64 (unwrap_or (slice_index_or sums g None) (pos 0)) (values new)))) =
      rw (made.marks, handed_none, frame, sum 0, sum 1, sum 2, sum 3) (ap (task (next_place f)) (spawned_sums g low _ _ _ _ (values new))) in
      goes_back sums (values n) (d + e + 1)
      (gives_makes procs (task f sums) (new_task (called_frame f p x y)) (record { task = task (next_place f) sums; to = to.Group g }) (values new) (values n) d e
      (ap (λ o. turn_at o (task f sums)) at) (rw child at first) (rw same at second)))
      leads
    where
      and_true : (c : Bool) → (c && true) ≡ c
      and_true true = refl
      and_true false = refl

  -- an isolate
  pub Leads-isolated : (t p x y : ℕ) (f : Frame) (count spent : ℕ) → 1 ≤ root → root ≤ length a → GoesBack procs (row a n).frame f count → instr_at procs f ≡ Some (Isolate t p x y) →
      (row b n).frame ≡ f → r.kind ≡ Region n → r.frame ≡ called_frame f p x y → Leads procs start j root a spent → Leads procs start j root b (spent + (count + 1))
  Leads-isolated t p x y f count spent least most goes_back at frame kind child leads = Leads-made spent count least most (λ values d e first second.
      let sums = sums_of j a values n in
      let sum : (h : ℕ) → sum_for j b values n h (mark a n h).rows ≡ sum_for j a values n h (mark a n h).rows = λ h.
      let no : counts j n h (mark a n h).rows new r ≡ false = rw kind (false_and (r.job == j) (nat_lt (mark a n h).rows new)) in
      sum-last values h (mark a n h).rows ∙ rw no refl in
      let self : (n == n) ≡ true = grind arith in
      let held : is_held_by j n r ≡ true = rw (kind, made.opens, mine, self) refl in
      let handed_one : hands_for j b values n ≡ Some (values new) = hands-last values ∙ rw (held, worth values) refl in
      let same : now procs j b values n ≡ task (write_and_step f t (values new)) sums =
      rw (made.marks, handed_one, frame, sum 0, sum 1, sum 2, sum 3) (ap (λ o. task (handed_frame o (values new) f) sums) at) in
      goes_back sums (values n) (d + e + 1)
      (gives_makes procs (task f sums) (new_task (called_frame f p x y)) (record { task = task (next_place f) sums; to = to.Register t }) (values new) (values n) d e
      (ap (λ o. turn_at o (task f sums)) at) (rw child at first) (rw same at second)))
      leads
