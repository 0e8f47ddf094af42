-- Changes of rows that keep the stacks of slots.
use Rattle.std.proofs.Common.{◌≡◌, ℕ, ◌+◌, ◌≤◌, List, [], ◌∷◌, ◌++◌, length, false, refl, ap, arith, inl, inr}
use Rattle.std.proofs.lemmas.Bool.{cases_eq}
use Rattle.tenant_model.specs.declared.rows.Phase.{Phase}
use Rattle.tenant_model.specs.declared.rows.Phase.TheVariants.{Live}
use Rattle.tenant_model.specs.declared.rows.Row.{Row}
use Rattle.tenant_model.specs.State.{row, with_at_number}
use Rattle.tenant_model.specs.Walks.{is_live_on, is_live_at, height}
use Rattle.tenant_model.specs.WellFormed.{rows_at, AreStacked}
use Rattle.tenant_model.proofs.Stacking.{one_if, count-with, count-push, AreSame, IsPushed, IsCut}

-- a row that is on no slot
pub record IsOff (p : Phase) : Type 0 where
  pub on : (slot : ℕ) → is_live_on slot p ≡ false
  pub at : (slot h : ℕ) → is_live_at slot h p ≡ false

module _ (rows : List Row) (n : ℕ) (r : Row) (from : 1 ≤ n) (to : n ≤ length rows) where
  -- the phase stays as it is
  pub AreSame-set : r.phase ≡ (row rows n).phase → AreSame rows (with_at_number rows n r)
  AreSame-set same = record {
    on = λ slot. let change = count-with (λ (x : Row). is_live_on slot x.phase) rows n r from to in let e : one_if (is_live_on slot r.phase) ≡ one_if (is_live_on slot (row rows n).phase) =
        ap (λ q. one_if (is_live_on slot q)) same in omega (arith, change, e);
    at = λ slot h. let change = count-with (λ (x : Row). is_live_at slot h x.phase) rows n r from to in let e : one_if (is_live_at slot h r.phase) ≡ one_if (is_live_at slot h (row rows n).phase) =
        ap (λ q. one_if (is_live_at slot h q)) same in omega (arith, change, e);
  }

  -- a row that was on no slot stands on top of one
  pub IsPushed-set : (slot : ℕ) → IsOff (row rows n).phase → r.phase ≡ Live slot (height rows slot + 1) → IsPushed rows (with_at_number rows n r) slot
  IsPushed-set slot off live =
      let on_change = λ (t : ℕ). count-with (λ (x : Row). is_live_on t x.phase) rows n r from to in
      let at_change = λ (t : ℕ) (h : ℕ). count-with (λ (x : Row). is_live_at t h x.phase) rows n r from to in
      record {
        on = let after : one_if (is_live_on slot r.phase) ≡ 1 = rw live (grind arith) in let before : one_if (is_live_on slot (row rows n).phase) ≡ 0 = rw off.on refl in
            omega (arith, on_change slot, after, before);
        on_others = λ t other. let after : one_if (is_live_on t r.phase) ≡ 0 = rw live (grind (arith, other)) in let before : one_if (is_live_on t (row rows n).phase) ≡ 0 = rw off.on refl in
            omega (arith, on_change t, after, before);
        at_top = let after : one_if (is_live_at slot (height rows slot + 1) r.phase) ≡ 1 = rw live (grind arith) in
            let before : one_if (is_live_at slot (height rows slot + 1) (row rows n).phase) ≡ 0 = rw off.at refl in omega (arith, at_change slot (height rows slot + 1), after, before);
        at_rest = λ h other. let after : one_if (is_live_at slot h r.phase) ≡ 0 = rw live (grind (arith, other)) in let before : one_if (is_live_at slot h (row rows n).phase) ≡ 0 = rw off.at refl in
            omega (arith, at_change slot h, after, before);
        at_others = λ t h other. let after : one_if (is_live_at t h r.phase) ≡ 0 = rw live (grind (arith, other)) in let before : one_if (is_live_at t h (row rows n).phase) ≡ 0 = rw off.at refl in
            omega (arith, at_change t h, after, before);
      }

  -- the topmost row leaves its slot
  pub IsCut-set : (slot : ℕ) → (row rows n).phase ≡ Live slot (height rows slot) → IsOff r.phase → 1 ≤ height rows slot → AreStacked rows → IsCut rows (with_at_number rows n r) slot (height rows slot)
  IsCut-set slot live off some stacked =
      let on_change = λ (t : ℕ). count-with (λ (x : Row). is_live_on t x.phase) rows n r from to in
      let at_change = λ (t : ℕ) (h : ℕ). count-with (λ (x : Row). is_live_at t h x.phase) rows n r from to in
      record {
        within = omega arith;
        on = let before : one_if (is_live_on slot (row rows n).phase) ≡ 1 = rw live (grind arith) in let after : one_if (is_live_on slot r.phase) ≡ 0 = rw off.on refl in
            omega (arith, on_change slot, after, before);
        on_others = λ t other. let before : one_if (is_live_on t (row rows n).phase) ≡ 0 = rw live (grind (arith, other)) in let after : one_if (is_live_on t r.phase) ≡ 0 = rw off.on refl in
            omega (arith, on_change t, after, before);
        kept = λ h below. let before : one_if (is_live_at slot h (row rows n).phase) ≡ 0 = rw live (grind (arith, below)) in let after : one_if (is_live_at slot h r.phase) ≡ 0 = rw off.at refl in
            omega (arith, at_change slot h, after, before);
        gone = λ h above. let after : one_if (is_live_at slot h r.phase) ≡ 0 = rw off.at refl in elim (cases_eq h (height rows slot)) [
          | inl top ↦ let before : one_if (is_live_at slot h (row rows n).phase) ≡ 1 = rw (live, top) (grind arith) in let one : rows_at rows slot h ≡ 1 =
              rw top (stacked.one_at_each slot (height rows slot) some (omega arith)) in omega (arith, at_change slot h, after, before, one)
          | inr higher ↦ let before : one_if (is_live_at slot h (row rows n).phase) ≡ 0 = rw live (grind (arith, higher)) in
              omega (arith, at_change slot h, after, before, stacked.none_above slot h (omega (arith, above, higher)))
        ];
        at_others = λ t h other. let before : one_if (is_live_at t h (row rows n).phase) ≡ 0 = rw live (grind (arith, other)) in let after : one_if (is_live_at t h r.phase) ≡ 0 = rw off.at refl in
            omega (arith, at_change t h, after, before);
      }

module _ (rows : List Row) (r : Row) where
  -- a new row that is on no slot
  pub AreSame-push : IsOff r.phase → AreSame rows (rows ++ r ∷ [])
  AreSame-push off = record {
    on = λ slot. let none : one_if (is_live_on slot r.phase) ≡ 0 = rw off.on refl in omega (arith, count-push (λ (x : Row). is_live_on slot x.phase) rows r, none);
    at = λ slot h. let none : one_if (is_live_at slot h r.phase) ≡ 0 = rw off.at refl in omega (arith, count-push (λ (x : Row). is_live_at slot h x.phase) rows r, none);
  }

  -- a new row on top of a slot
  pub IsPushed-push : (slot : ℕ) → r.phase ≡ Live slot (height rows slot + 1) → IsPushed rows (rows ++ r ∷ []) slot
  IsPushed-push slot live =
      let on_change = λ (t : ℕ). count-push (λ (x : Row). is_live_on t x.phase) rows r in
      let at_change = λ (t : ℕ) (h : ℕ). count-push (λ (x : Row). is_live_at t h x.phase) rows r in
      record {
        on = let one : one_if (is_live_on slot r.phase) ≡ 1 = rw live (grind arith) in omega (arith, on_change slot, one);
        on_others = λ t other. let none : one_if (is_live_on t r.phase) ≡ 0 = rw live (grind (arith, other)) in omega (arith, on_change t, none);
        at_top = let one : one_if (is_live_at slot (height rows slot + 1) r.phase) ≡ 1 = rw live (grind arith) in omega (arith, at_change slot (height rows slot + 1), one);
        at_rest = λ h other. let none : one_if (is_live_at slot h r.phase) ≡ 0 = rw live (grind (arith, other)) in omega (arith, at_change slot h, none);
        at_others = λ t h other. let none : one_if (is_live_at t h r.phase) ≡ 0 = rw live (grind (arith, other)) in omega (arith, at_change t h, none);
      }
