-- A row more on top of a stack.
use Rattle.std.proofs.Common.{◌≡◌, ◌≢◌, ℕ, zero, suc, ◌+◌, ◌-◌, ◌<◌, ◌≤◌, List, [], ◌∷◌, ◌++◌, length, Some, refl, sym, ap, ◌∙◌, arith, inl, inr, length-set}
use Rattle.std.specs.Prelude.{slice_get}
use Rattle.std.proofs.lemmas.Bool.{cases_eq}
use Rattle.std.proofs.lemmas.List.{get_or-set_same, get_or-set_other, length_push}
use Rattle.std.proofs.lemmas.Option.{slice_get_within}
use Rattle.nest_stack.specs.declared.stack.Nested.{Nested}
use Rattle.nest_stack.specs.Nest.{stack, with_stack, at_height}
use Rattle.tenant_model.specs.declared.rows.Phase.TheVariants.{Live}
use Rattle.tenant_model.specs.declared.rows.Row.{Row}
use Rattle.tenant_model.specs.State.{row}
use Rattle.tenant_model.proofs.Parts.{same_place}
use Rattle.arena_rows.specs.Represents.{Places, nested_of, AreNests}

get-left : {A : Type 0} (xs ys : List A) (k : ℕ) (x : A) → slice_get xs k ≡ Some x → slice_get (xs ++ ys) k ≡ Some x
get-left [] ys k x is = absurd (grind (arith, slice_get_within [] k x is))
get-left (z ∷ zs) ys zero x is = is
get-left (z ∷ zs) ys (suc k) x is = get-left zs ys k x is

get-push : {A : Type 0} (xs : List A) (y : A) (k : ℕ) → k ≡ length xs → slice_get (xs ++ y ∷ []) k ≡ Some y
get-push [] y k is = rw is refl
get-push (z ∷ zs) y zero is = absurd (omega arith)
get-push (z ∷ zs) y (suc k) is = get-push zs y k (omega arith)

module _ (nests : List (List Nested)) (slot : ℕ) (new : List Nested) (within : slot < length nests) where
  pub stack_same : stack (with_stack nests slot new) slot ≡ new
  stack_same = get_or-set_same nests slot new [] within

  pub stack_other : (t : ℕ) → t ≢ slot → stack (with_stack nests slot new) t ≡ stack nests t
  stack_other t other = get_or-set_other nests slot t new [] other

-- row n, which was on no slot, on top of one
module _ (rows rows' : List Row) (places : Places) (slots : ℕ) (nests : List (List Nested)) (n slot : ℕ) (are : AreNests rows places slots nests) (within : slot < slots)
    (off : (t h : ℕ) → (row rows n).phase ≡ Live t h → ⊥) (live : (row rows' n).phase ≡ Live slot (length (stack nests slot) + 1)) (others : (m : ℕ) → m ≢ n → row rows' m ≡ row rows m) where
  abbrev top : Nested
  top = nested_of rows' places n

  abbrev new_stack : List Nested
  new_stack = stack nests slot ++ top ∷ []

  inside : slot < length nests
  inside = omega (arith, are.long, within)

  at : (m t h : ℕ) → m ≢ n → (row rows' m).phase ≡ Live t h → (t < slots) × (1 ≤ h) × (at_height (stack (with_stack nests slot new_stack) t) h ≡ Some (nested_of rows' places m))
  at m t h other live_m =
      let same = others m other in
      let old = are.each m t h (ap (λ (r : Row). r.phase) (sym same) ∙ live_m) in (
        old.0,
        old.1,
        elim (cases_eq t slot) [
          | inl here ↦ rw (here, stack_same nests slot new_stack inside, same) (get-left (stack nests slot) (top ∷ []) (h - 1) (nested_of rows places m) (rw here at old.2))
          | inr there ↦ rw (stack_other nests slot new_stack inside t there, same) old.2
        ],
      )

  still : (t h : ℕ) → (m : ℕ) × ((row rows m).phase ≡ Live t h) → (m : ℕ) × ((row rows' m).phase ≡ Live t h)
  still t h found =
      let m = found.0 in
      let other : m ≢ n = λ same. off t h (ap (λ k. (row rows k).phase) (sym same) ∙ found.1) in
      (m, ap (λ (r : Row). r.phase) (others m other) ∙ found.1)

  pub AreNests-pushed : AreNests rows' places slots (with_stack nests slot new_stack)
  AreNests-pushed = record {
    long = length-set nests slot new_stack ∙ are.long;
    each = λ m t h live_m. elim (cases_eq m n) [
      | inl same ↦
          let place = same_place slot (length (stack nests slot) + 1) t h (sym live ∙ rw same at live_m) in (
            omega (arith, place, within),
            omega (arith, place),
            rw (same, sym place.0, sym place.1, stack_same nests slot new_stack inside) (get-push (stack nests slot) top (length (stack nests slot) + 1 - 1) (omega arith)),
          )
      | inr other ↦ at m t h other live_m
    ];
    only = λ t h from to. elim (cases_eq t slot) [
      | inl here ↦
          let to_here : h ≤ length new_stack = rw (here, stack_same nests slot new_stack inside) at to in
          elim (cases_eq h (length (stack nests slot) + 1)) [
            | inl on_top ↦ (n, rw (here, on_top) live)
            | inr lower ↦ still t h (rw here (are.only slot h from (omega (arith, to_here, lower, length_push (stack nests slot) top))))
          ]
      | inr there ↦ still t h (are.only t h from (rw (stack_other nests slot new_stack inside t there) at to))
    ];
  }
