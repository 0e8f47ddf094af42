-- The frame of a slot's topmost row moves on.
use Rattle.std.proofs.Common.{◌≡◌, ◌≢◌, ℕ, zero, suc, ◌-◌, ◌<◌, ◌≤◌, List, [], ◌∷◌, length, Option, Some, refl, sym, ap, ◌∙◌, arith, inl, inr, length-set, unwrap_or}
use Rattle.std.specs.Prelude.{slice_set, slice_get}
use Rattle.std.proofs.lemmas.Bool.{cases_eq}
use Rattle.job_step.specs.declared.frames.Frame.{Frame}
use Rattle.nest_stack.specs.declared.stack.Nested.{Nested}
use Rattle.nest_stack.specs.Nest.{stack, with_stack, at_height, with_top_frame}
use Rattle.nest_stack.specs.Nest as nest
use Rattle.tenant_model.specs.declared.rows.Phase.TheVariants.{Live}
use Rattle.tenant_model.specs.declared.rows.Row.{Row}
use Rattle.tenant_model.specs.State.{row}
use Rattle.tenant_model.specs.Walks.{height, top}
use Rattle.tenant_model.specs.WellFormed.{AreStacked}
use Rattle.tenant_model.proofs.Parts.{same_place}
use Rattle.tenant_model.proofs.Picks.{top_is}
use Rattle.arena_rows.specs.Represents.{Places, nested_of, AreNests}
use Rattle.arena_rows.proofs.Tops.{height_is}
use Rattle.arena_rows.proofs.Pushed.{stack_same, stack_other}

get-set_same : {A : Type 0} (xs : List A) (i : ℕ) (x : A) → i < length xs → slice_get (slice_set xs i x) i ≡ Some x
get-set_same [] i x within = absurd (omega arith)
get-set_same (y ∷ ys) zero x within = refl
get-set_same (y ∷ ys) (suc i) x within = get-set_same ys i x (omega arith)

get-set_other : {A : Type 0} (xs : List A) (i j : ℕ) (x : A) → j ≢ i → slice_get (slice_set xs i x) j ≡ slice_get xs j
get-set_other [] i j x other = refl
get-set_other (y ∷ ys) zero zero x other = absurd (omega arith)
get-set_other (y ∷ ys) zero (suc j) x other = refl
get-set_other (y ∷ ys) (suc i) zero x other = refl
get-set_other (y ∷ ys) (suc i) (suc j) x other = get-set_other ys i j x (omega arith)

module _ (rows rows' : List Row) (places : Places) (slots : ℕ) (nests : List (List Nested)) (stacked : AreStacked rows) (n slot : ℕ) (f : Frame) (are : AreNests rows places slots nests)
    (within : slot < slots) (on_top : top rows slot ≡ Some n)
    (phases : (m : ℕ) → (row rows' m).phase ≡ (row rows m).phase) (framed : row rows' n ≡ record (row rows n) { frame = f }) (others : (m : ℕ) → m ≢ n → row rows' m ≡ row rows m) where
  live : (row rows n).phase ≡ Live slot (height rows slot)
  live = (top_is rows slot n on_top).2

  old : (slot < slots) × (1 ≤ height rows slot) × (at_height (stack nests slot) (height rows slot) ≡ Some (nested_of rows places n))
  old = are.each n slot (height rows slot) live

  high : length (stack nests slot) ≡ height rows slot
  high = height_is rows places slots nests stacked are slot

  abbrev new_stack : List Nested
  new_stack = slice_set (stack nests slot) (length (stack nests slot) - 1) (nested_of rows' places n)

  new_is : with_top_frame (stack nests slot) f ≡ new_stack
  new_is =
      let found : nest.top (stack nests slot) ≡ Some (nested_of rows places n) = rw high old.2 in
      rw (found, framed) refl

  inside : slot < length nests
  inside = omega (arith, are.long, within)

  low : length (stack nests slot) - 1 < length (stack nests slot)
  low = omega (arith, high, old)

  pub AreNests-framed : AreNests rows' places slots (with_stack nests slot (with_top_frame (stack nests slot) f))
  AreNests-framed = rw new_is (record {
    long = length-set nests slot new_stack ∙ are.long;
    each = λ m t h live_m.
        let before : (row rows m).phase ≡ Live t h = sym (phases m) ∙ live_m in
        let its = are.each m t h before in (
          its.0,
          its.1,
          elim (cases_eq m n) [
            | inl same ↦
                let place = same_place slot (height rows slot) t h (sym live ∙ (rw same at before)) in
                let here : h - 1 ≡ length (stack nests slot) - 1 = omega (arith, place, high) in
                rw (sym place.0, stack_same nests slot new_stack inside, same, here) (get-set_same (stack nests slot) (length (stack nests slot) - 1) (nested_of rows' places n) low)
            | inr other ↦ elim (cases_eq t slot) [
              | inl here ↦
                  let its_here : at_height (stack nests slot) h ≡ Some (nested_of rows places m) = rw here at its.2 in
                  let apart : h - 1 ≢ length (stack nests slot) - 1 = λ same.
                  let level : h ≡ height rows slot = omega (arith, same, its, high, old) in
                  let both : Some (nested_of rows places m) ≡ Some (nested_of rows places n) = sym its_here ∙ rw level old.2 in
                  other (ap (λ (o : Option Nested). (unwrap_or o (nested_of rows places m)).row.number) both) in
                  rw (here, stack_same nests slot new_stack inside, others m other)
                  (get-set_other (stack nests slot) (length (stack nests slot) - 1) (h - 1) (nested_of rows' places n) apart ∙ its_here)
              | inr there ↦ rw (stack_other nests slot new_stack inside t there, others m other) its.2
            ]
          ],
        );
    only = λ t h from to.
        let to_old : h ≤ length (stack nests t) = elim (cases_eq t slot) [
          | inl here ↦ let it : h ≤ length new_stack = rw (here, stack_same nests slot new_stack inside) at to in
              rw here (omega (arith, it, length-set (stack nests slot) (length (stack nests slot) - 1) (nested_of rows' places n)))
          | inr there ↦ rw (stack_other nests slot new_stack inside t there) at to
        ] in
        let found = are.only t h from to_old in
        (found.0, phases found.0 ∙ found.1);
  })
