-- The row that a slot nests belongs above what is on it.
use Rattle.std.proofs.Common.{◌≡◌, ℕ, ◌+◌, ◌<◌, ◌≤◌, List, length, Option, Some, None, true, refl, arith}
use Rattle.job_language.specs.declared.tenants.Isolation.{Isolation}
use Rattle.job_language.specs.declared.tenants.Isolation.TheVariants.{Exact, Within}
use Rattle.tenant_model.specs.declared.rows.Phase.{Phase}
use Rattle.tenant_model.specs.declared.rows.Phase.TheVariants.{Unstarted, Live, Done, Dropped, Faulted}
use Rattle.tenant_model.specs.declared.rows.Row.{Row}
use Rattle.tenant_model.specs.declared.rows.TheConstants.{MAX_HEIGHT}
use Rattle.tenant_model.specs.State.{State, row}
use Rattle.tenant_model.specs.Walks.{is_region, is_within, region_of, same_region, is_allowed, is_unstarted, is_open, height, top, pick}
use Rattle.tenant_model.specs.Changes.{nest}
use Rattle.tenant_model.specs.Linked.{MakersPrecede}
use Rattle.tenant_model.specs.WellFormed.{IsWellFormed}
use Rattle.tenant_model.proofs.Stacked.{IsOff}
use Rattle.tenant_model.proofs.Within.{region_within, region_inside, within_further, no_region_outside}
use Rattle.tenant_model.proofs.Insides.{live_low}
use Rattle.tenant_model.proofs.Picks.{top_is, pick_is}
use Rattle.tenant_model.proofs.Keeping.{nest_kept}

unstarted_is_off : (p : Phase) → is_unstarted p ≡ true → IsOff p × (is_open p ≡ true)
unstarted_is_off Unstarted is = (record { on = λ slot. refl; at = λ slot h. refl }, refl)
unstarted_is_off (Live t h) is = absurd (grind (arith, is))
unstarted_is_off (Done v) is = absurd (grind (arith, is))
unstarted_is_off Dropped is = absurd (grind (arith, is))
unstarted_is_off Faulted is = absurd (grind (arith, is))

same_region_is : (r : ℕ) (o : Option ℕ) → same_region (Some r) o ≡ true → o ≡ Some r
same_region_is r None is = absurd (grind (arith, is))
same_region_is r (Some q) is = let e : r ≡ q = grind (arith, is) in rw e refl

-- The row that a waiter takes is within all regions that the waiter is within.
allowed_inside : (mode : Isolation) (rows : List Row) (n m q : ℕ) (o : Option ℕ) → MakersPrecede rows → (1 ≤ n) × (n ≤ length rows) → (1 ≤ m) × (m ≤ length rows) →
    region_of rows n ≡ o → is_allowed mode rows o m ≡ true → is_region (row rows q).kind ≡ true → is_within rows n q ≡ true → is_within rows m q ≡ true
allowed_inside mode rows n m q None precede there there_m region allowed is_one within = absurd (no_region_outside rows precede n n q (omega arith) there.0 there.1 region is_one within)
allowed_inside Exact rows n m q (Some r) precede there there_m region allowed is_one within =
    let own = same_region_is r (region_of rows m) allowed in
    within_further rows precede m m r q (omega arith) there_m.0 there_m.1 (region_within rows precede m m r (omega arith) there_m.0 there_m.1 own)
    (region_inside rows precede n n r q (omega arith) there.0 there.1 region is_one within)
allowed_inside Within rows n m q (Some r) precede there there_m region allowed is_one within =
    within_further rows precede m m r q (omega arith) there_m.0 there_m.1 allowed (region_inside rows precede n n r q (omega arith) there.0 there.1 region is_one within)

module _ (s : State) (slot m : ℕ) (is : IsWellFormed s) (picked : pick s slot ≡ Some m) where
  -- on an empty slot
  pub nest_first_kept : height s.rows slot ≡ 0 → IsWellFormed (nest s slot m)
  nest_first_kept empty =
      let its = pick_is s.config.isolation s.rows slot m picked in
      let off = unstarted_is_off (row s.rows m).phase its.2 in
      nest_kept s m (λ r. record r { phase = Live slot (height s.rows slot + 1) }) its.0 its.1 refl refl (is.marked m) slot off.0 off.1 refl (omega (arith, empty))
      (λ x low q live is_one within. let below = live_low s.rows is.stacked x slot low live in absurd (omega (arith, below, empty))) is

  -- on a waiting row
  pub nest_top_kept : (n : ℕ) → top s.rows slot ≡ Some n → height s.rows slot < MAX_HEIGHT → IsWellFormed (nest s slot m)
  nest_top_kept n top room =
      let its = pick_is s.config.isolation s.rows slot m picked in
      let off = unstarted_is_off (row s.rows m).phase its.2 in
      let waiter = top_is s.rows slot n top in
      let allowed : is_allowed s.config.isolation s.rows (region_of s.rows n) m ≡ true = rw top at its.3 in
      nest_kept s m (λ r. record r { phase = Live slot (height s.rows slot + 1) }) its.0 its.1 refl refl (is.marked m) slot off.0 off.1 refl room
      (λ x low q live is_one within.
      let below = live_low s.rows is.stacked x slot low live in
      let above = is.inside x n slot low (height s.rows slot) q live waiter.2 below.1 is_one within in
      allowed_inside s.config.isolation s.rows n m q (region_of s.rows n) is.linked.makers (waiter.0, waiter.1) (its.0, its.1) refl allowed is_one above) is
