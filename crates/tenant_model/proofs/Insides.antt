-- What stands on what, after a change of rows.
use Rattle.std.proofs.Common.{◌≡◌, ℕ, zero, suc, ◌+◌, ◌≤◌, List, [], length, true, false, refl, sym, ap, ◌∙◌, arith, inl, inr, ◌⊎◌}
use Rattle.std.proofs.lemmas.Bool.{cases_eq, cases_lt}
use Rattle.tenant_model.specs.declared.rows.Phase.TheVariants.{Live}
use Rattle.tenant_model.specs.declared.rows.Row.{Row}
use Rattle.tenant_model.specs.State.{row}
use Rattle.tenant_model.specs.Walks.{is_region, is_within, is_live_at, height}
use Rattle.tenant_model.specs.WellFormed.{rows_at, AreStacked, AreInside}
use Rattle.tenant_model.specs.Linked.{MakersPrecede}
use Rattle.tenant_model.proofs.Changed.{row-past}
use Rattle.tenant_model.proofs.Stacking.{one_if, count-with}
use Rattle.tenant_model.proofs.Within.{is_within-kinds, within_above}

no_row : (n slot h : ℕ) → is_live_at slot h (row [] n).phase ≡ false
no_row zero slot h = refl
no_row (suc n) slot h = refl

-- A row that is live is there.
pub live_there : (rows : List Row) (n slot h : ℕ) → (row rows n).phase ≡ Live slot h → (1 ≤ n) × (n ≤ length rows)
live_there rows n slot h live = elim (cases_eq n 0) [
  | inl none ↦
      let no : is_live_at slot h (row rows n).phase ≡ false = rw none refl in
      let yes : is_live_at slot h (row rows n).phase ≡ true = rw live (grind arith) in
      absurd (grind (arith, no, yes))
  | inr some ↦ elim (cases_lt (length rows) n) [
    | inl past ↦
        let no : is_live_at slot h (row rows n).phase ≡ false = rw (row-past rows n past) (no_row n slot h) in
        let yes : is_live_at slot h (row rows n).phase ≡ true = rw live (grind arith) in
        absurd (grind (arith, no, yes))
    | inr within ↦ (omega (arith, some), within)
  ]
]

-- It stands within its slot's height.
pub live_low : (rows : List Row) → AreStacked rows → (n slot h : ℕ) → (row rows n).phase ≡ Live slot h → (1 ≤ h) × (h ≤ height rows slot)
live_low rows stacked n slot h live =
    let there = live_there rows n slot h live in
    let change = count-with (λ (r : Row). is_live_at slot h r.phase) rows n (row [] 0) there.0 there.1 in
    let one : one_if (is_live_at slot h (row rows n).phase) ≡ 1 = rw live (grind arith) in
    let some : 1 ≤ rows_at rows slot h = omega (arith, change, one) in (
      elim (cases_eq h 0) [
        | inl none ↦ let zero_there : rows_at rows slot h ≡ 0 = rw none (stacked.none_below slot) in absurd (omega (arith, some, zero_there))
        | inr some_height ↦ omega (arith, some_height)
      ],
      elim (cases_lt (height rows slot) h) [
        | inl above ↦ absurd (omega (arith, some, stacked.none_above slot h above))
        | inr below ↦ below
      ],
    )

-- Fewer rows are live, each at the place where it was.
pub AreInside-fewer : (a b : List Row) → ((n : ℕ) → (row b n).kind ≡ (row a n).kind) → ((n slot h : ℕ) → (row b n).phase ≡ Live slot h → (row a n).phase ≡ Live slot h) → AreInside a → AreInside b
AreInside-fewer a b kinds lives inside x y slot low high q x_live y_live le is_one within =
    let region : is_region (row a q).kind ≡ true = ap is_region (sym (kinds q)) ∙ is_one in
    let before : is_within a x q ≡ true = sym (is_within-kinds a b kinds x q) ∙ within in
    is_within-kinds a b kinds y q ∙ inside x y slot low high q (lives x slot low x_live) (lives y slot high y_live) le region before

-- A row stands on top of a slot that was not live before.
pub record IsOnTop (a b : List Row) (slot m : ℕ) : Type 0 where
  pub kinds : (q : ℕ) → 1 ≤ q → q ≤ length a → (row b q).kind ≡ (row a q).kind
  pub withins : (x q : ℕ) → 1 ≤ x → x ≤ length a → is_within b x q ≡ is_within a x q
  pub lives : (x t h : ℕ) → (row b x).phase ≡ Live t h → ((x ≡ m) × (t ≡ slot) × (h ≡ height a slot + 1)) ⊎ ((row a x).phase ≡ Live t h)
  pub fits : (x low q : ℕ) → (row a x).phase ≡ Live slot low → is_region (row a q).kind ≡ true → is_within a x q ≡ true → is_within b m q ≡ true

pub AreInside-top : (a b : List Row) (slot m : ℕ) → MakersPrecede a → AreStacked a → IsOnTop a b slot m → AreInside a → AreInside b
AreInside-top a b slot m precede stacked on_top inside x y t low high q x_live y_live le is_one within = elim (on_top.lives y t high y_live) [
  | inl top ↦ elim (on_top.lives x t low x_live) [
    | inl same ↦ let e : y ≡ x = top.0 ∙ sym same.0 in rw e within
    | inr old ↦
        let there = live_there a x t low old in
        let before : is_within a x q ≡ true = sym (on_top.withins x q there.0 there.1) ∙ within in
        let above = within_above a precede x x q (omega arith) there.0 there.1 before in
        let region : is_region (row a q).kind ≡ true = ap is_region (sym (on_top.kinds q above.0 (omega (arith, above, there)))) ∙ is_one in
        let here : (row a x).phase ≡ Live slot low = rw (sym top.1) old in
        rw top.0 (on_top.fits x low q here region before)
  ]
  | inr old_y ↦ elim (on_top.lives x t low x_live) [
    | inl top ↦
        let higher = live_low a stacked y t high old_y in
        let e : height a t ≡ height a slot = ap (height a) top.1 in
        absurd (omega (arith, higher, top, le, e))
    | inr old ↦
        let there = live_there a x t low old in
        let there_y = live_there a y t high old_y in
        let before : is_within a x q ≡ true = sym (on_top.withins x q there.0 there.1) ∙ within in
        let above = within_above a precede x x q (omega arith) there.0 there.1 before in
        let region : is_region (row a q).kind ≡ true = ap is_region (sym (on_top.kinds q above.0 (omega (arith, above, there)))) ∙ is_one in
        on_top.withins y q there_y.0 there_y.1 ∙ inside x y t low high q old old_y le region before
  ]
]
