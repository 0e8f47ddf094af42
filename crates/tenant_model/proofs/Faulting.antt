-- Stacks after settling and after faults.
use Rattle.std.proofs.Common.{◌≡◌, ◌≢◌, ℕ, zero, suc, ◌+◌, ◌-◌, ◌==◌, ◌<◌, ◌≤◌, List, [], ◌∷◌, Bool, false, ◌&&◌, nat_lt, max, refl, sym, ap, ◌∙◌, arith, inl, inr, map}
use Rattle.std.specs.Prelude.{count_by, fold}
use Rattle.std.proofs.lemmas.Bool.{cases_eq, cases_lt}
use Rattle.tenant_model.specs.declared.rows.Phase.{Phase}
use Rattle.tenant_model.specs.declared.rows.Phase.TheVariants.{Unstarted, Live, Done, Dropped, Faulted}
use Rattle.tenant_model.specs.declared.rows.Row.{Row}
use Rattle.tenant_model.specs.State.{State}
use Rattle.tenant_model.specs.Walks.{is_live_on, is_live_at, is_context_cancelled, height, settled_row, settle}
use Rattle.tenant_model.specs.Changes.{task_height_of, task_height, faulted_phase, faulted_row}
use Rattle.tenant_model.specs.WellFormed.{rows_at, AreStacked}
use Rattle.tenant_model.proofs.Stacking.{one_if, count-cons, count-split, count-map, AreSame, IsCut}

settled_on : (slot : ℕ) (r : Row) (b : Bool) (p : Phase) → r.phase ≡ p → is_live_on slot (settled_row r b).phase ≡ is_live_on slot r.phase
settled_on slot r b Unstarted is = rw is (grind arith)
settled_on slot r b (Live t h) is = rw is refl
settled_on slot r b (Done v) is = rw is refl
settled_on slot r b Dropped is = rw is refl
settled_on slot r b Faulted is = rw is refl

settled_at : (slot h : ℕ) (r : Row) (b : Bool) (p : Phase) → r.phase ≡ p → is_live_at slot h (settled_row r b).phase ≡ is_live_at slot h r.phase
settled_at slot h r b Unstarted is = rw is (grind arith)
settled_at slot h r b (Live t k) is = rw is refl
settled_at slot h r b (Done v) is = rw is refl
settled_at slot h r b Dropped is = rw is refl
settled_at slot h r b Faulted is = rw is refl

-- Settling leaves the stacks as they are.
pub AreSame-settle : (s : State) → AreSame s.rows (settle s).rows
AreSame-settle s = record {
  on = λ slot. count-map (λ (r : Row). is_live_on slot r.phase) (λ p. settled_row p.1 (is_context_cancelled s p.0)) (λ n r. settled_on slot r (is_context_cancelled s n) r.phase refl) 1 s.rows;
  at = λ slot h. count-map (λ (r : Row). is_live_at slot h r.phase) (λ p. settled_row p.1 (is_context_cancelled s p.0)) (λ n r. settled_at slot h r (is_context_cancelled s n) r.phase refl) 1 s.rows;
}

-- A count of mapped rows counts the rows by another test.
count-mapped : (p q : Row → Bool) (f : Row → Row) → ((r : Row) → p (f r) ≡ q r) → (rows : List Row) → count_by p (map f rows) ≡ count_by q rows
count-mapped p q f same [] = refl
count-mapped p q f same (x ∷ xs) = count-cons p (f x) (map f xs) ∙ rw (same x) (ap (λ n. one_if (q x) + n) (count-mapped p q f same xs) ∙ sym (count-cons q x xs))

count-same : (p q : Row → Bool) → ((r : Row) → p r ≡ q r) → (rows : List Row) → count_by p rows ≡ count_by q rows
count-same p q same [] = refl
count-same p q same (x ∷ xs) = count-cons p x xs ∙ rw (same x) (ap (λ n. one_if (q x) + n) (count-same p q same xs) ∙ sym (count-cons q x xs))

count-none : (rows : List Row) → count_by (λ (r : Row). false) rows ≡ 0
count-none [] = refl
count-none (x ∷ xs) = omega (arith, count-cons (λ (r : Row). false) x xs, count-none xs)

-- on the slot, below a height
abbrev is_below : (slot from : ℕ) → Phase → Bool
is_below slot from (Live t h) = (t == slot) && nat_lt h from
is_below slot from p = false

below_none : (slot : ℕ) (p : Phase) → is_below slot 0 p ≡ false
below_none slot Unstarted = refl
below_none slot (Live t h) = grind arith
below_none slot (Done v) = refl
below_none slot Dropped = refl
below_none slot Faulted = refl

below_more : (slot k : ℕ) (p : Phase) → one_if (is_below slot (suc k) p) ≡ one_if (is_below slot k p) + one_if (is_live_at slot k p)
below_more slot k Unstarted = refl
below_more slot k (Live t h) = grind arith
below_more slot k (Done v) = refl
below_more slot k Dropped = refl
below_more slot k Faulted = refl

-- how many rows are below a height
count_below : (rows : List Row) → AreStacked rows → (slot k : ℕ) → k ≤ height rows slot + 1 → count_by (λ (r : Row). is_below slot k r.phase) rows ≡ k - 1
count_below rows stacked slot zero within = count-same _ (λ r. false) (λ r. below_none slot r.phase) rows ∙ count-none rows
count_below rows stacked slot (suc k) within =
    let before = count_below rows stacked slot k (omega arith) in
    let split = count-split (λ (r : Row). is_below slot (suc k) r.phase) (λ (r : Row). is_below slot k r.phase) (λ (r : Row). is_live_at slot k r.phase) (λ r. below_more slot k r.phase) rows in
    elim (cases_eq k 0) [
      | inl none ↦
          let at : rows_at rows slot k ≡ 0 = rw none (stacked.none_below slot) in
          omega (arith, before, split, at, none)
      | inr some ↦
          let at : rows_at rows slot k ≡ 1 = stacked.one_at_each slot k (omega arith) (omega arith) in
          omega (arith, before, split, at, some)
    ]

-- No row stands higher than the slot's height.
task_height_low : (slot most : ℕ) (r : Row) (p : Phase) → r.phase ≡ p → ((h : ℕ) → most < h → is_live_at slot h r.phase ≡ false) → task_height_of slot r ≤ most
task_height_low slot most r Unstarted is none = rw is (omega arith)
task_height_low slot most r (Live t h) is none = elim (cases_lt most h) [
  | inl above ↦
      let no : ((t == slot) && (h == h)) ≡ false = rw is at (none h above) in
      rw is (grind (arith, no))
  | inr below ↦ rw is (grind (arith, below))
]
task_height_low slot most r (Done v) is none = rw is (omega arith)
task_height_low slot most r Dropped is none = rw is (omega arith)
task_height_low slot most r Faulted is none = rw is (omega arith)

highest_low : (slot most : ℕ) (rows : List Row) (so_far : ℕ) → ((h : ℕ) → most < h → rows_at rows slot h ≡ 0) → so_far ≤ most → fold (λ n r. max n (task_height_of slot r)) so_far rows ≤ most
highest_low slot most [] so_far none within = within
highest_low slot most (x ∷ xs) so_far none within =
    let counts : (h : ℕ) → most < h → one_if (is_live_at slot h x.phase) + rows_at xs slot h ≡ 0 = λ h above. sym (count-cons (λ (r : Row). is_live_at slot h r.phase) x xs) ∙ none h above in
    let here : task_height_of slot x ≤ most = task_height_low slot most x x.phase refl (λ h above. grind (arith, counts h above)) in
    highest_low slot most xs (max so_far (task_height_of slot x)) (λ h above. omega (arith, counts h above)) (omega (arith, here, within))

task_height-le : (rows : List Row) → AreStacked rows → (slot : ℕ) → task_height rows slot ≤ height rows slot
task_height-le rows stacked slot = highest_low slot (height rows slot) rows 0 (stacked.none_above slot) (omega arith)

faulted_on : (slot from : ℕ) (p : Phase) → is_live_on slot (faulted_phase slot from p) ≡ is_below slot from p
faulted_on slot from Unstarted = refl
faulted_on slot from (Live t h) = grind arith
faulted_on slot from (Done v) = refl
faulted_on slot from Dropped = refl
faulted_on slot from Faulted = refl

faulted_on_others : (slot from t : ℕ) (p : Phase) → t ≢ slot → is_live_on t (faulted_phase slot from p) ≡ is_live_on t p
faulted_on_others slot from t Unstarted other = refl
faulted_on_others slot from t (Live u h) other = grind (arith, other)
faulted_on_others slot from t (Done v) other = refl
faulted_on_others slot from t Dropped other = refl
faulted_on_others slot from t Faulted other = refl

faulted_kept : (slot from h : ℕ) (p : Phase) → h < from → is_live_at slot h (faulted_phase slot from p) ≡ is_live_at slot h p
faulted_kept slot from h Unstarted below = refl
faulted_kept slot from h (Live u k) below = grind (arith, below)
faulted_kept slot from h (Done v) below = refl
faulted_kept slot from h Dropped below = refl
faulted_kept slot from h Faulted below = refl

faulted_gone : (slot from h : ℕ) (p : Phase) → from ≤ h → is_live_at slot h (faulted_phase slot from p) ≡ false
faulted_gone slot from h Unstarted above = refl
faulted_gone slot from h (Live u k) above = grind (arith, above)
faulted_gone slot from h (Done v) above = refl
faulted_gone slot from h Dropped above = refl
faulted_gone slot from h Faulted above = refl

faulted_at_others : (slot from t h : ℕ) (p : Phase) → t ≢ slot → is_live_at t h (faulted_phase slot from p) ≡ is_live_at t h p
faulted_at_others slot from t h Unstarted other = refl
faulted_at_others slot from t h (Live u k) other = grind (arith, other)
faulted_at_others slot from t h (Done v) other = refl
faulted_at_others slot from t h Dropped other = refl
faulted_at_others slot from t h Faulted other = refl

-- A fault takes the rows of its slot from the topmost one that is no region.
pub IsCut-faults : (rows : List Row) → AreStacked rows → (slot : ℕ) → IsCut rows (map (faulted_row slot (task_height rows slot)) rows) slot (task_height rows slot)
IsCut-faults rows stacked slot =
    let from = task_height rows slot in
    let low = task_height-le rows stacked slot in
    record {
      within = omega (arith, low);
      on = count-mapped (λ (r : Row). is_live_on slot r.phase) (λ (r : Row). is_below slot from r.phase) (faulted_row slot from) (λ r. faulted_on slot from r.phase) rows ∙
          count_below rows stacked slot from (omega (arith, low));
      on_others = λ t other. count-mapped (λ (r : Row). is_live_on t r.phase) (λ (r : Row). is_live_on t r.phase) (faulted_row slot from) (λ r. faulted_on_others slot from t r.phase other) rows;
      kept = λ h below. count-mapped (λ (r : Row). is_live_at slot h r.phase) (λ (r : Row). is_live_at slot h r.phase) (faulted_row slot from) (λ r. faulted_kept slot from h r.phase below) rows;
      gone = λ h above. count-mapped (λ (r : Row). is_live_at slot h r.phase) (λ (r : Row). false) (faulted_row slot from) (λ r. faulted_gone slot from h r.phase above) rows ∙ count-none rows;
      at_others = λ t h other. count-mapped (λ (r : Row). is_live_at t h r.phase) (λ (r : Row). is_live_at t h r.phase) (faulted_row slot from) (λ r. faulted_at_others slot from t h r.phase other)
          rows;
    }
