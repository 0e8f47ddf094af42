-- A fault ends rows of one job: regions stand on their makers, down to the first row that is no region.
use Rattle.std.proofs.Common.{◌≡◌, ℕ, zero, suc, ◌+◌, ◌-◌, ◌==◌, ◌≤◌, List, [], ◌∷◌, length, max, Bool, true, refl, sym, ap, ◌∙◌, arith, inl, inr}
use Rattle.std.specs.Prelude.{count_by, fold}
use Rattle.std.proofs.lemmas.Bool.{cases_eq}
use Rattle.tenant_model.specs.declared.rows.Kind.{Kind}
use Rattle.tenant_model.specs.declared.rows.Kind.TheVariants.{Root, Posted, Spawned, Region}
use Rattle.tenant_model.specs.declared.rows.Phase.TheVariants.{Live}
use Rattle.tenant_model.specs.declared.rows.Row.{Row}
use Rattle.tenant_model.specs.State.{row, with_at_number}
use Rattle.tenant_model.specs.Walks.{maker_of, is_region, is_live_at, height}
use Rattle.tenant_model.specs.Changes.{task_height_of, task_height}
use Rattle.tenant_model.specs.WellFormed.{rows_at, AreStacked, StandOnMakers}
use Rattle.tenant_model.specs.Sound.{ShareJobs}
use Rattle.tenant_model.proofs.Within.{either_way}
use Rattle.tenant_model.proofs.Changed.{row-with_other, length-with}
use Rattle.tenant_model.proofs.Stacking.{one_if, count-cons, count-with}
use Rattle.tenant_model.proofs.Insides.{live_there, live_low}
use Rattle.tenant_model.proofs.Picks.{live_is}

pub row-cons : (x : Row) (xs : List Row) (k : ℕ) → 1 ≤ k → row (x ∷ xs) (suc k) ≡ row xs k
row-cons x xs zero from = absurd (omega (arith, from))
row-cons x xs (suc k) from = refl

-- a row that is counted is there
pub counted_there : (p : Row → Bool) (rows : List Row) → 1 ≤ count_by p rows → (k : ℕ) × (1 ≤ k) × (k ≤ length rows) × (p (row rows k) ≡ true)
counted_there p [] some = absurd (omega (arith, some))
counted_there p (x ∷ xs) some = elim (either_way (p x)) [
  | inl here ↦ (1, omega arith, omega arith, here)
  | inr not_here ↦
      let none : one_if (p x) ≡ 0 = rw not_here refl in
      let later = counted_there p xs (omega (arith, some, count-cons p x xs, none)) in
      (suc later.0, omega arith, omega (arith, later.2), rw (row-cons x xs later.0 later.1) later.3)
]

-- no two rows stand at one place
pub one_there : (rows : List Row) → AreStacked rows → (x y slot h : ℕ) → (row rows x).phase ≡ Live slot h → (row rows y).phase ≡ Live slot h → x ≡ y
one_there rows stacked x y slot h x_live y_live = elim (cases_eq x y) [
  | inl same ↦ same
  | inr apart ↦
      let p : Row → Bool = λ r. is_live_at slot h r.phase in
      let x_there = live_there rows x slot h x_live in
      let y_there = live_there rows y slot h y_live in
      let low = live_low rows stacked x slot h x_live in
      let rest = with_at_number rows x (row [] 0) in
      let first = count-with p rows x (row [] 0) x_there.0 x_there.1 in
      let second = count-with p rest y (row [] 0) y_there.0 (omega (arith, y_there, length-with rows x (row [] 0))) in
      let same : row rest y ≡ row rows y = row-with_other rows x y (row [] 0) x_there.0 (λ e. apart (sym e)) in
      let x_counts : one_if (p (row rows x)) ≡ 1 = rw x_live (grind arith) in
      let y_counts : one_if (p (row rest y)) ≡ 1 = rw (same, y_live) (grind arith) in
      absurd (omega (arith, first, second, x_counts, y_counts, stacked.one_at_each slot h low.0 low.1))
]

highest_so_far : (slot : ℕ) (rows : List Row) (so_far : ℕ) → so_far ≤ fold (λ most r. max most (task_height_of slot r)) so_far rows
highest_so_far slot [] so_far = omega arith
highest_so_far slot (x ∷ xs) so_far = let rest = highest_so_far slot xs (max so_far (task_height_of slot x)) in omega (arith, rest)

highest_of_all : (slot : ℕ) (rows : List Row) (so_far k : ℕ) → 1 ≤ k → k ≤ length rows → task_height_of slot (row rows k) ≤ fold (λ most r. max most (task_height_of slot r)) so_far rows
highest_of_all slot [] so_far k from to = absurd (omega (arith, from, to))
highest_of_all slot (x ∷ xs) so_far zero from to = absurd (omega (arith, from))
highest_of_all slot (x ∷ xs) so_far (suc k) from to = elim (cases_eq k 0) [
  | inl first ↦ let rest = highest_so_far slot xs (max so_far (task_height_of slot x)) in rw first (omega (arith, rest))
  | inr later ↦ rw (row-cons x xs k (omega (arith, later))) (highest_of_all slot xs (max so_far (task_height_of slot x)) k (omega (arith, later)) (omega (arith, to)))
]

region_is : (k : Kind) → is_region k ≡ true → (m : ℕ) × (k ≡ Region m)
region_is Root is = absurd (grind (arith, is))
region_is Posted is = absurd (grind (arith, is))
region_is (Spawned m g) is = absurd (grind (arith, is))
region_is (Region m) is = (m, refl)

-- The rows on a slot from the height of its highest task on are of the topmost row's job.
module _ (rows : List Row) (stacked : AreStacked rows) (on_makers : StandOnMakers rows) (shared : ShareJobs rows) (slot n : ℕ) (top : (row rows n).phase ≡ Live slot (height rows slot)) where
  pub same_job : (d k h : ℕ) → (row rows k).phase ≡ Live slot h → task_height rows slot ≤ h → h + d ≡ height rows slot → (row rows k).job ≡ (row rows n).job
  same_job zero k h live above level =
      let e : h ≡ height rows slot = omega (arith, level) in
      let same = one_there rows stacked k n slot h live (rw e top) in
      rw same refl
  same_job (suc d) k h live above level =
      let next : rows_at rows slot (h + 1) ≡ 1 = stacked.one_at_each slot (h + 1) (omega arith) (omega (arith, level)) in
      let q = counted_there (λ (r : Row). is_live_at slot (h + 1) r.phase) rows (omega (arith, next)) in
      let q_live = live_is slot (h + 1) (row rows q.0).phase q.3 in
      let task_low = highest_of_all slot rows 0 q.0 q.1 q.2 in
      elim (either_way (is_region (row rows q.0).kind)) [
        | inl is_one ↦
            let its = region_is (row rows q.0).kind is_one in
            let back : h + 1 - 1 ≡ h = omega arith in
            let below : (row rows its.0).phase ≡ Live slot h = rw back at (on_makers.below q.0 its.0 slot (h + 1) its.1 q_live) in
            let same = one_there rows stacked its.0 k slot h below live in
            let made : (row rows its.0).job ≡ (row rows q.0).job = sym (shared q.0 its.0 (ap maker_of its.1)) in
            rw (sym same) (made ∙ same_job d q.0 (h + 1) q_live (omega (arith, above)) (omega (arith, level)))
        | inr is_none ↦
            let self : (slot == slot) ≡ true = grind arith in
            let at : task_height_of slot (row rows q.0) ≡ h + 1 = rw (q_live, is_none, self) refl in
            absurd (omega (arith, task_low, at, above))
      ]
