-- The stacks after a row has ended.
use Rattle.std.proofs.Common.{◌≡◌, ◌≢◌, ℕ, zero, suc, ◌-◌, ◌<◌, ◌≤◌, List, [], ◌∷◌, length, Some, true, false, refl, sym, ap, ◌∙◌, arith, inl, inr, take, length-set}
use Rattle.std.specs.Prelude.{slice_get}
use Rattle.std.proofs.lemmas.Bool.{cases_eq}
use Rattle.std.proofs.lemmas.List.{length-take-le}
use Rattle.std.proofs.lemmas.Option.{slice_get_within}
use Rattle.nest_stack.specs.declared.stack.Nested.{Nested}
use Rattle.nest_stack.specs.Nest.{stack, with_stack, at_height, below}
use Rattle.tenant_model.specs.declared.rows.Phase.TheVariants.{Live}
use Rattle.tenant_model.specs.declared.rows.Row.{Row}
use Rattle.tenant_model.specs.State.{row}
use Rattle.tenant_model.specs.Walks.{is_open, height, top}
use Rattle.tenant_model.specs.WellFormed.{AreStacked}
use Rattle.tenant_model.proofs.Parts.{same_place}
use Rattle.tenant_model.proofs.Picks.{top_is}
use Rattle.tenant_model.proofs.Together.{one_there}
use Rattle.arena_rows.specs.Represents.{Places, nested_of, AreNests}
use Rattle.arena_rows.proofs.Pushed.{stack_same, stack_other}
use Rattle.arena_rows.proofs.Tops.{height_is}

get-take : {A : Type 0} (k : ℕ) (xs : List A) (i : ℕ) → i < k → slice_get (take k xs) i ≡ slice_get xs i
get-take zero xs i low = absurd (omega (arith, low))
get-take (suc k) [] i low = refl
get-take (suc k) (x ∷ xs) zero low = refl
get-take (suc k) (x ∷ xs) (suc i) low = get-take k xs i (omega (arith, low))

-- row n is no longer on a slot, and the others are where they were
module _ (rows rows' : List Row) (places : Places) (slots : ℕ) (nests : List (List Nested)) (n : ℕ) (are : AreNests rows places slots nests) (ended : is_open (row rows' n).phase ≡ false)
    (others : (m : ℕ) → m ≢ n → row rows' m ≡ row rows m) where
  apart : (m slot h : ℕ) → (row rows' m).phase ≡ Live slot h → m ≢ n
  apart m slot h live same =
      let opened : is_open (row rows' m).phase ≡ true = rw live refl in
      let closed : is_open (row rows' m).phase ≡ false = ap (λ k. is_open (row rows' k).phase) same ∙ ended in
      grind (arith, opened, closed)

  nested_same : (m : ℕ) → m ≢ n → nested_of rows' places m ≡ nested_of rows places m
  nested_same m other = rw (others m other) refl

  -- It was on none.
  pub AreNests-off : ((slot h : ℕ) → (row rows n).phase ≡ Live slot h → ⊥) → AreNests rows' places slots nests
  AreNests-off off = record {
    long = are.long;
    each = λ m slot h live.
        let other = apart m slot h live in
        let its = are.each m slot h (ap (λ (q : Row). q.phase) (sym (others m other)) ∙ live) in
        (its.0, its.1, its.2 ∙ ap Some (sym (nested_same m other)));
    only = λ slot h from to.
        let found = are.only slot h from to in
        let other : found.0 ≢ n = λ same. off slot h (ap (λ k. (row rows k).phase) (sym same) ∙ found.1) in
        (found.0, ap (λ (q : Row). q.phase) (others found.0 other) ∙ found.1);
  }

  -- It was the topmost one of a slot.
  module _ (stacked : AreStacked rows) (slot : ℕ) (within : slot < slots) (on_top : top rows slot ≡ Some n) where
    live : (row rows n).phase ≡ Live slot (height rows slot)
    live = (top_is rows slot n on_top).2

    high : length (stack nests slot) ≡ height rows slot
    high = height_is rows places slots nests stacked are slot

    some : 1 ≤ height rows slot
    some = (are.each n slot (height rows slot) live).1

    abbrev pub popped : List Nested
    popped = below (stack nests slot) (length (stack nests slot))

    inside : slot < length nests
    inside = omega (arith, are.long, within)

    short : length popped ≡ height rows slot - 1
    short = length-take-le (length (stack nests slot) - 1) (stack nests slot) (omega arith) ∙ omega (arith, high)

    pub AreNests-popped : AreNests rows' places slots (with_stack nests slot popped)
    AreNests-popped = record {
      long = length-set nests slot popped ∙ are.long;
      each = λ m t h live_m.
          let other = apart m t h live_m in
          let before : (row rows m).phase ≡ Live t h = ap (λ (q : Row). q.phase) (sym (others m other)) ∙ live_m in
          let its = are.each m t h before in (
            its.0,
            its.1,
            elim (cases_eq t slot) [
              | inl here ↦
                  let to : h ≤ length (stack nests slot) = at_most t h here (its.2) in
                  let not_top : h ≢ height rows slot = λ same.
                  other (one_there rows stacked m n slot (height rows slot) (before ∙ ap (λ k. Live k h) here ∙ ap (Live slot) same) live) in
                  let low : h - 1 < length (stack nests slot) - 1 = omega (arith, to, high, not_top, its.1) in
                  let its_here : at_height (stack nests slot) h ≡ Some (nested_of rows places m) = ap (λ k. at_height (stack nests k) h) (sym here) ∙ its.2 in
                  ap (λ k. at_height (stack (with_stack nests slot popped) k) h) here ∙ ap (λ xs. at_height xs h) (stack_same nests slot popped inside) ∙
                  get-take (length (stack nests slot) - 1) (stack nests slot) (h - 1) low ∙ its_here ∙ ap Some (sym (nested_same m other))
              | inr there ↦ ap (λ xs. at_height xs h) (stack_other nests slot popped inside t there) ∙ its.2 ∙ ap Some (sym (nested_same m other))
            ],
          );
      only = λ t h from to. elim (cases_eq t slot) [
        | inl here ↦
            let to_here : h ≤ length popped = ap_le h (ap length (ap (stack (with_stack nests slot popped)) here ∙ stack_same nests slot popped inside)) to in
            found_again t h (are.only t h from (ap_le h (ap (λ k. length (stack nests k)) (sym here)) (omega (arith, to_here, short, high))))
            (λ same. let place = same_place t h slot (height rows slot) (sym same ∙ live) in omega (arith, place, to_here, short, some))
        | inr there ↦
            let to_old : h ≤ length (stack nests t) = ap_le h (ap length (stack_other nests slot popped inside t there)) to in
            found_again t h (are.only t h from to_old) (λ same. let place = same_place t h slot (height rows slot) (sym same ∙ live) in there place.0)
      ];
    }
      where
        ap_le : (h : ℕ) {a b : ℕ} → a ≡ b → h ≤ a → h ≤ b
        ap_le h same to = omega (arith, same, to)

        at_most : (t h : ℕ) → t ≡ slot → {x : Nested} → at_height (stack nests t) h ≡ Some x → h ≤ length (stack nests slot)
        at_most t h here {x = x} there =
            let found : at_height (stack nests slot) h ≡ Some x = ap (λ k. at_height (stack nests k) h) (sym here) ∙ there in
            omega (arith, slice_get_within (stack nests slot) (h - 1) x found)

        found_again : (t h : ℕ) → (m : ℕ) × ((row rows m).phase ≡ Live t h) → ((row rows n).phase ≡ Live t h → ⊥) → (m : ℕ) × ((row rows' m).phase ≡ Live t h)
        found_again t h found not_it =
            let other : found.0 ≢ n = λ same. not_it (ap (λ k. (row rows k).phase) (sym same) ∙ found.1) in
            (found.0, ap (λ (q : Row). q.phase) (others found.0 other) ∙ found.1)
