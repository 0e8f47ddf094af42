-- Rows of a slot that fault, from the topmost one down.
use Rattle.std.proofs.Common.{◌≡◌, ◌≢◌, ℕ, zero, suc, ◌+◌, ◌-◌, ◌==◌, ◌<◌, ◌≤◌, nat_le, List, [], ◌∷◌, length, length-set, Option, Some, None, Bool, true, false, ◌&&◌, not, refl, sym, ap, ◌∙◌, arith}
use Rattle.std.proofs.Common.{inl, inr, get_or, map}
use Rattle.std.specs.Prelude.{fold, max, slice_set, if◌then◌else◌}
use Rattle.std.proofs.Math.Nat.{le-max_left, le-max_right, max-le}
use Rattle.std.proofs.lemmas.Bool.{cases_eq}
use Rattle.std.proofs.lemmas.List.{ext_get_or, length-map, map-set, set-get_or, get_or-map, get_or-set_same, get_or-set_other}
use Rattle.tenant_model.specs.declared.rows.Phase.{Phase}
use Rattle.tenant_model.specs.declared.rows.Phase.TheVariants.{Unstarted, Live, Done, Dropped, Faulted}
use Rattle.tenant_model.specs.declared.rows.Row.{Row}
use Rattle.tenant_model.specs.State.{row, with_at_number}
use Rattle.tenant_model.specs.Walks.{is_region, is_live_on, height, top}
use Rattle.tenant_model.specs.WellFormed.{AreStacked}
use Rattle.tenant_model.specs.Changes.{height_of, task_height_of, task_height, faulted_phase, faulted_row}
use Rattle.tenant_model.proofs.Changed.{row-get_or, with_at_number-from}
use Rattle.tenant_model.proofs.Insides.{live_low}
use Rattle.tenant_model.proofs.Picks.{top_is, top_none}
use Rattle.tenant_model.proofs.Stacking.{one_if, count-with}
use Rattle.tenant_model.proofs.Together.{one_there}
use Rattle.tenant_model.proofs.Within.{either_way}

module _ (slot : ℕ) where
  abbrev most : ℕ → List Row → ℕ
  most b rows = fold (λ most r. max most (task_height_of slot r)) b rows

  most_low : (rows : List Row) (b k : ℕ) (d : Row) → b ≤ k → ((i : ℕ) → i < length rows → task_height_of slot (get_or rows i d) ≤ k) → most b rows ≤ k
  most_low [] b k d low each = low
  most_low (r ∷ rows) b k d low each = most_low rows (max b (task_height_of slot r)) k d (max-le low (each 0 (omega arith))) (λ i within. each (suc i) (omega (arith, within)))

  most_from : (rows : List Row) (b : ℕ) → b ≤ most b rows
  most_from [] b = omega arith
  most_from (r ∷ rows) b = omega (arith, le-max_left b (task_height_of slot r), most_from rows (max b (task_height_of slot r)))

  most_high : (rows : List Row) (b i : ℕ) (d : Row) → i < length rows → task_height_of slot (get_or rows i d) ≤ most b rows
  most_high [] b i d within = absurd (omega (arith, within))
  most_high (r ∷ rows) b zero d within = omega (arith, le-max_right b (task_height_of slot r), most_from rows (max b (task_height_of slot r)))
  most_high (r ∷ rows) b (suc i) d within = most_high rows (max b (task_height_of slot r)) i d (omega (arith, within))

  most_same : (rows : List Row) (b i : ℕ) (r d : Row) → task_height_of slot r ≡ task_height_of slot (get_or rows i d) → most b (slice_set rows i r) ≡ most b rows
  most_same [] b i r d same = refl
  most_same (x ∷ rows) b zero r d same = ap (λ h. most (max b h) rows) same
  most_same (x ∷ rows) b (suc i) r d same = most_same rows (max b (task_height_of slot x)) i r d same

  -- a row stands no higher than the slot
  low_phase : (p : Phase) (k : ℕ) (b : Bool) → ((h : ℕ) → p ≡ Live slot h → h ≤ k) → (if is_live_on slot p && b then height_of p else 0) ≤ k
  low_phase Unstarted k b low = omega arith
  low_phase (Live t h) k b low = elim (cases_eq t slot) [
    | inl same ↦
        let here : (t == slot) ≡ true = grind (arith, same) in
        let its = low h (ap (λ i. Live i h) same) in
        rw here (elim (either_way b) [ inl is ↦ rw is its | inr not_so ↦ rw not_so (omega arith) ])
    | inr other ↦ let apart : (t == slot) ≡ false = grind (arith, other) in rw apart (omega arith)
  ]
  low_phase (Done v) k b low = omega arith
  low_phase Dropped k b low = omega arith
  low_phase Faulted k b low = omega arith

  module _ (rows : List Row) (stacked : AreStacked rows) (n : ℕ) (on_top : top rows slot ≡ Some n) where
    its : (1 ≤ n) × (n ≤ length rows) × ((row rows n).phase ≡ Live slot (height rows slot))
    its = top_is rows slot n on_top

    abbrev r : Row
    r = record (row rows n) { phase = Faulted }

    within : n - 1 < length rows
    within = omega (arith, its.0, its.1)

    here : (d : Row) → get_or rows (n - 1) d ≡ row rows n
    here d = let place : n - 1 + 1 ≡ n = omega (arith, its.0) in row-get_or rows (n - 1) d within ∙ ap (row rows) place

    each_low : (d : Row) (i : ℕ) → i < length rows → task_height_of slot (get_or rows i d) ≤ height rows slot
    each_low d i below = low_phase (get_or rows i d).phase (height rows slot) (not (is_region (get_or rows i d).kind))
        (λ h live. (live_low rows stacked (i + 1) slot h (ap (λ (q : Row). q.phase) (sym (row-get_or rows i d below)) ∙ live)).1)

    pub task_low : task_height rows slot ≤ height rows slot
    task_low = most_low rows 0 (height rows slot) r (omega arith) (each_low r)

    -- The topmost row is a task: it is the highest one.
    pub task_is_top : is_region (row rows n).kind ≡ false → task_height rows slot ≡ height rows slot
    task_is_top task =
        let own : (slot == slot) ≡ true = grind arith in
        let its_height : task_height_of slot (get_or rows (n - 1) r) ≡ height rows slot = ap (task_height_of slot) (here r) ∙ rw (its.2, task, own) refl in
        omega (arith, task_low, most_high rows 0 (n - 1) r within, its_height)

    -- It is a region: the highest task is below it.
    pub task_below : is_region (row rows n).kind ≡ true → task_height (with_at_number rows n r) slot ≡ task_height rows slot
    task_below region =
        let none : task_height_of slot (get_or rows (n - 1) r) ≡ 0 =
        ap (task_height_of slot) (here r) ∙ rw (its.2, region) (elim (either_way (slot == slot)) [ inl is ↦ rw is refl | inr not_so ↦ rw not_so refl ]) in
        rw (with_at_number-from rows n r its.0) (most_same rows 0 (n - 1) r r (sym none))

    abbrev faulted : ℕ → Row → Row
    faulted k q = faulted_row slot k q

    goes_at : (k h : ℕ) → k ≤ h → faulted_phase slot k (Live slot h) ≡ Faulted
    goes_at k h low = let own : (slot == slot) ≡ true = grind arith in let from : nat_le k h ≡ true = grind (arith, low) in rw (own, from) refl

    stays_at : (p : Phase) → ((h : ℕ) → p ≡ Live slot h → h < height rows slot) → faulted_phase slot (height rows slot) p ≡ p
    stays_at Unstarted low = refl
    stays_at (Live t h) low = elim (cases_eq t slot) [
      | inl same ↦
          let own : (t == slot) ≡ true = grind (arith, same) in
          let below = low h (ap (λ i. Live i h) same) in
          let from : nat_le (height rows slot) h ≡ false = grind (arith, below) in
          rw (own, from) refl
      | inr other ↦ let apart : (t == slot) ≡ false = grind (arith, other) in rw apart refl
    ]
    stays_at (Done v) low = refl
    stays_at Dropped low = refl
    stays_at Faulted low = refl

    -- From its own height on, it alone faults.
    pub faults_top : map (faulted (height rows slot)) rows ≡ with_at_number rows n r
    faults_top = ext_get_or r (map (faulted (height rows slot)) rows) (slice_set rows (n - 1) r) (length-map rows (faulted (height rows slot)) ∙ sym (length-set rows (n - 1) r)) (λ i below.
        let low : i < length rows = omega (arith, below, length-map rows (faulted (height rows slot))) in
        get_or-map (faulted (height rows slot)) rows i r r low ∙ elim (cases_eq i (n - 1)) [
          | inl same ↦
              let now : get_or (slice_set rows (n - 1) r) i r ≡ r = ap (λ k. get_or (slice_set rows (n - 1) r) k r) same ∙ get_or-set_same rows (n - 1) r r within in
              let was : get_or rows i r ≡ row rows n = ap (λ k. get_or rows k r) same ∙ here r in
              ap (faulted (height rows slot)) was ∙
              ap (λ p. let q : Row = record (row rows n) { phase = p } in q) (ap (faulted_phase slot (height rows slot)) its.2 ∙ goes_at (height rows slot) (height rows slot) (omega arith)) ∙
              sym now
          | inr other ↦
              let now : get_or (slice_set rows (n - 1) r) i r ≡ get_or rows i r = get_or-set_other rows (n - 1) i r r other in
              let x = get_or rows i r in
              let number : row rows (i + 1) ≡ x = sym (row-get_or rows i r low) in
              ap (λ p. let q : Row = record x { phase = p } in q) (stays_at x.phase (λ h live.
              let live_x : (row rows (i + 1)).phase ≡ Live slot h = ap (λ (q : Row). q.phase) number ∙ live in
              let most_h = live_low rows stacked (i + 1) slot h live_x in
              let apart : h ≢ height rows slot = λ top_height. other (omega (arith, one_there rows stacked (i + 1) n slot h live_x (its.2 ∙ ap (Live slot) (sym top_height)))) in
              omega (arith, most_h.1, apart))) ∙ sym now
        ]) ∙ sym (with_at_number-from rows n r its.0)

    -- From a lower one on, it does not count whether it has faulted.
    pub faults_below : (k : ℕ) → k ≤ height rows slot → map (faulted k) (with_at_number rows n r) ≡ map (faulted k) rows
    faults_below k low =
        let same : faulted k r ≡ faulted k (row rows n) = ap (λ p. let q : Row = record (row rows n) { phase = p } in q) (sym (ap (faulted_phase slot k) its.2 ∙ goes_at k (height rows slot) low)) in
        ap (map (faulted k)) (with_at_number-from rows n r its.0) ∙ map-set (faulted k) rows (n - 1) r ∙
        ap (slice_set (map (faulted k) rows) (n - 1)) (same ∙ ap (faulted k) (sym (here r)) ∙ sym (get_or-map (faulted k) rows (n - 1) r r within)) ∙ set-get_or (map (faulted k) rows) (n - 1) r

    pub lower_by_one : height (with_at_number rows n r) slot + 1 ≡ height rows slot
    lower_by_one =
        let own : (slot == slot) ≡ true = grind arith in
        let was : one_if (is_live_on slot (row rows n).phase) ≡ 1 = rw (its.2, own) refl in
        omega (arith, count-with (λ (q : Row). is_live_on slot q.phase) rows n r its.0 its.1, was)

-- The row that is live at a slot's height is its topmost one.
pub top_there : (rows : List Row) (slot m : ℕ) → AreStacked rows → (row rows m).phase ≡ Live slot (height rows slot) → top rows slot ≡ Some m
top_there rows slot m stacked live = by_top (top rows slot) refl
  where
    by_top : (o : Option ℕ) → top rows slot ≡ o → top rows slot ≡ Some m
    by_top None is = let low = live_low rows stacked m slot (height rows slot) live in absurd (omega (arith, low, top_none rows slot stacked is))
    by_top (Some x) is = is ∙ ap Some (one_there rows stacked x m slot (height rows slot) (top_is rows slot x is).2 live)
