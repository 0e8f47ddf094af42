-- Chains of makers, and what is within what.
use Rattle.std.proofs.Common.{◌≡◌, ◌≢◌, ℕ, zero, suc, ◌==◌, ◌<◌, ◌≤◌, List, [], ◌∷◌, ◌++◌, length, Option, Some, None, Bool, true, false, ◌||◌, refl, sym, ap, ◌∙◌, arith, inl, inr, ◌⊎◌}
use Rattle.std.specs.Prelude.{IfSome, unwrap_or, is_some}
use Rattle.std.specs.List.{list_any}
use Rattle.std.proofs.lemmas.Bool.{cases_eq}
use Rattle.std.proofs.lemmas.List.{length_push}
use Rattle.tenant_model.specs.declared.rows.Row.{Row}
use Rattle.tenant_model.specs.State.{row}
use Rattle.tenant_model.specs.Walks.{maker_of, with_makers, chain_for, is_within, is_region, region_of}
use Rattle.tenant_model.specs.Linked.{MakersPrecede}
use Rattle.tenant_model.proofs.Chains.{chain_goes_on, chain_ends}
use Rattle.tenant_model.proofs.Changed.{row-push_old}

-- the maker of a row, or none
pub maker_cases : (o : Option ℕ) → (o ≡ None) ⊎ ((m : ℕ) × (o ≡ Some m))
maker_cases None = inl refl
maker_cases (Some m) = inr (m, refl)

pub with_makers-cong : (n : ℕ) (o p : Option ℕ) (f g : ℕ → List ℕ) → o ≡ p → ((m : ℕ) → f m ≡ g m) → with_makers n o f ≡ with_makers n p g
with_makers-cong n None p f g same each = rw (sym same) refl
with_makers-cong n (Some m) p f g same each = rw (sym same) (ap (λ ms. n ∷ ms) (each m))

-- Chains are those of the makers alone.
pub chain_for-kinds : (a b : List Row) → ((n : ℕ) → (row b n).kind ≡ (row a n).kind) → (k n : ℕ) → chain_for k b n ≡ chain_for k a n
chain_for-kinds a b kinds zero n = refl
chain_for-kinds a b kinds (suc k) n = with_makers-cong n (maker_of (row b n).kind) (maker_of (row a n).kind) _ _ (ap maker_of (kinds n)) (chain_for-kinds a b kinds k)

pub is_within-kinds : (a b : List Row) → ((n : ℕ) → (row b n).kind ≡ (row a n).kind) → (n r : ℕ) → is_within b n r ≡ is_within a n r
is_within-kinds a b kinds n r = ap (list_any (λ m. m == r)) (chain_for-kinds a b kinds n n)

-- a test that passes, or does not
pub either_way : (b : Bool) → (b ≡ true) ⊎ (b ≡ false)
either_way true = inl refl
either_way false = inr refl

some_same : {n m : ℕ} → Some n ≡ Some m → n ≡ m
some_same same = ap (λ o. unwrap_or o 0) same

none_some : (o : Option ℕ) (m : ℕ) → o ≡ None → o ≡ Some m → false ≡ true
none_some o m none some = sym (ap is_some none) ∙ ap is_some some

module _ (rows : List Row) (precede : MakersPrecede rows) where
  -- A row is within itself.
  pub within_itself : (n : ℕ) → 1 ≤ n → n ≤ length rows → is_within rows n n ≡ true
  within_itself n from to = elim (maker_cases (maker_of (row rows n).kind)) [
    | inl none ↦ rw (chain_ends rows n from none) (grind arith)
    | inr made ↦ rw (chain_goes_on rows precede n made.0 from to made.1) (grind arith)
  ]

  -- A row is within what its maker is within.
  pub within_by_maker : (n m r : ℕ) → 1 ≤ n → n ≤ length rows → maker_of (row rows n).kind ≡ Some m → is_within rows m r ≡ true → is_within rows n r ≡ true
  within_by_maker n m r from to made within = rw (chain_goes_on rows precede n m from to made, within) (grind arith)

  pub maker_before : (n m : ℕ) → 1 ≤ n → n ≤ length rows → maker_of (row rows n).kind ≡ Some m → (1 ≤ m) × (m < n)
  maker_before n m from to made = let before : IfSome (Some m) (λ k. (1 ≤ k) × (k < n)) = rw made at (precede n from to) in before

  -- The rows on a chain stand before its first, or are it.
  pub within_above : (k n r : ℕ) → n ≤ k → 1 ≤ n → n ≤ length rows → is_within rows n r ≡ true → (1 ≤ r) × (r ≤ n)
  within_above zero n r enough from to within = absurd (omega arith)
  within_above (suc k) n r enough from to within = elim (cases_eq n r) [
    | inl same ↦ (omega (arith, same), omega (arith, same))
    | inr other ↦ elim (maker_cases (maker_of (row rows n).kind)) [
      | inl none ↦
          let alone : is_within rows n r ≡ (n == r) = rw (chain_ends rows n from none) (grind arith) in
          absurd (grind (arith, alone, within, other))
      | inr made ↦
          let m = made.0 in
          let before = maker_before n m from to made.1 in
          let goes : is_within rows n r ≡ ((n == r) || is_within rows m r) = rw (chain_goes_on rows precede n m from to made.1) refl in
          let below : is_within rows m r ≡ true = grind (arith, goes, within, other) in
          let there = within_above k m r (omega (arith, before)) before.0 (omega (arith, before)) below in
          (there.0, omega (arith, there, before))
    ]
  ]

  -- What is within a row is within all that it is within.
  pub within_further : (k n r q : ℕ) → n ≤ k → 1 ≤ n → n ≤ length rows → is_within rows n r ≡ true → is_within rows r q ≡ true → is_within rows n q ≡ true
  within_further zero n r q enough from to within further = absurd (omega arith)
  within_further (suc k) n r q enough from to within further = elim (cases_eq n r) [
    | inl same ↦ rw same further
    | inr other ↦ elim (maker_cases (maker_of (row rows n).kind)) [
      | inl none ↦
          let alone : is_within rows n r ≡ (n == r) = rw (chain_ends rows n from none) (grind arith) in
          absurd (grind (arith, alone, within, other))
      | inr made ↦
          let m = made.0 in
          let before = maker_before n m from to made.1 in
          let goes : is_within rows n r ≡ ((n == r) || is_within rows m r) = rw (chain_goes_on rows precede n m from to made.1) refl in
          let below : is_within rows m r ≡ true = grind (arith, goes, within, other) in
          within_by_maker n m q from to made.1 (within_further k m r q (omega (arith, before)) before.0 (omega (arith, before)) below further)
    ]
  ]

  -- the region of a row, by whether it is one
  pub region_of-here : (n : ℕ) → 1 ≤ n → n ≤ length rows → is_region (row rows n).kind ≡ true → region_of rows n ≡ Some n
  region_of-here n from to is_one = elim (maker_cases (maker_of (row rows n).kind)) [
    | inl none ↦ rw (chain_ends rows n from none, is_one) refl
    | inr made ↦ rw (chain_goes_on rows precede n made.0 from to made.1, is_one) refl
  ]

  pub region_of-above : (n m : ℕ) → 1 ≤ n → n ≤ length rows → is_region (row rows n).kind ≡ false → maker_of (row rows n).kind ≡ Some m → region_of rows n ≡ region_of rows m
  region_of-above n m from to is_none made = rw (chain_goes_on rows precede n m from to made, is_none) refl

  pub region_of-none : (n : ℕ) → 1 ≤ n → n ≤ length rows → is_region (row rows n).kind ≡ false → maker_of (row rows n).kind ≡ None → region_of rows n ≡ None
  region_of-none n from to is_none none = rw (chain_ends rows n from none, is_none) refl

  -- The region of a row is within all regions that the row is within.
  pub region_inside : (k n r q : ℕ) → n ≤ k → 1 ≤ n → n ≤ length rows → region_of rows n ≡ Some r → is_region (row rows q).kind ≡ true → is_within rows n q ≡ true → is_within rows r q ≡ true
  region_inside zero n r q enough from to region is_one within = absurd (omega arith)
  region_inside (suc k) n r q enough from to region is_one within = elim (either_way (is_region (row rows n).kind)) [
    | inl here ↦
        let same : Some n ≡ Some r = sym (region_of-here n from to here) ∙ region in
        let e : n ≡ r = some_same same in
        rw (sym e) within
    | inr not_here ↦ elim (maker_cases (maker_of (row rows n).kind)) [
      | inl none ↦
          absurd (grind (arith, none_some (region_of rows n) r (region_of-none n from to not_here none) region))
      | inr made ↦
          let m = made.0 in
          let before = maker_before n m from to made.1 in
          let goes : is_within rows n q ≡ ((n == q) || is_within rows m q) = rw (chain_goes_on rows precede n m from to made.1) refl in
          let other : n ≢ q = λ same. absurd (grind (arith, not_here, is_one, same)) in
          let below : is_within rows m q ≡ true = grind (arith, goes, within, other) in
          region_inside k m r q (omega (arith, before)) before.0 (omega (arith, before)) (sym (region_of-above n m from to not_here made.1) ∙ region) is_one below
    ]
  ]

  -- A row is within its region.
  pub region_within : (k n r : ℕ) → n ≤ k → 1 ≤ n → n ≤ length rows → region_of rows n ≡ Some r → is_within rows n r ≡ true
  region_within zero n r enough from to region = absurd (omega arith)
  region_within (suc k) n r enough from to region = elim (either_way (is_region (row rows n).kind)) [
    | inl here ↦
        let e : n ≡ r = some_same (sym (region_of-here n from to here) ∙ region) in
        rw (sym e) (within_itself n from to)
    | inr not_here ↦ elim (maker_cases (maker_of (row rows n).kind)) [
      | inl none ↦ absurd (grind (arith, none_some (region_of rows n) r (region_of-none n from to not_here none) region))
      | inr made ↦
          let m = made.0 in
          let before = maker_before n m from to made.1 in
          within_by_maker n m r from to made.1 (region_within k m r (omega (arith, before)) before.0 (omega (arith, before)) (sym (region_of-above n m from to not_here made.1) ∙ region))
    ]
  ]

  -- A row without a region is within none.
  pub no_region_outside : (k n q : ℕ) → n ≤ k → 1 ≤ n → n ≤ length rows → region_of rows n ≡ None → is_region (row rows q).kind ≡ true → is_within rows n q ≡ true → ⊥
  no_region_outside zero n q enough from to none is_one within = absurd (omega arith)
  no_region_outside (suc k) n q enough from to none is_one within = elim (either_way (is_region (row rows n).kind)) [
    | inl here ↦ grind (arith, none_some (region_of rows n) n none (region_of-here n from to here))
    | inr not_here ↦
        let other : n ≢ q = λ same. absurd (grind (arith, not_here, is_one, same)) in
        elim (maker_cases (maker_of (row rows n).kind)) [
          | inl alone ↦
              let itself : is_within rows n q ≡ (n == q) = rw (chain_ends rows n from alone) (grind arith) in
              absurd (grind (arith, itself, within, other))
          | inr made ↦
              let m = made.0 in
              let before = maker_before n m from to made.1 in
              let goes : is_within rows n q ≡ ((n == q) || is_within rows m q) = rw (chain_goes_on rows precede n m from to made.1) refl in
              let below : is_within rows m q ≡ true = grind (arith, goes, within, other) in
              no_region_outside k m q (omega (arith, before)) before.0 (omega (arith, before)) (sym (region_of-above n m from to not_here made.1) ∙ none) is_one below
        ]
  ]

  -- A new row at the end changes no chain of those before.
  pub is_within-push : (x : Row) (k n r : ℕ) → n ≤ k → 1 ≤ n → n ≤ length rows → MakersPrecede (rows ++ x ∷ []) → is_within (rows ++ x ∷ []) n r ≡ is_within rows n r
  is_within-push x zero n r enough from to all = absurd (omega arith)
  is_within-push x (suc k) n r enough from to all =
      let more : n ≤ length (rows ++ x ∷ []) = omega (arith, to, length_push rows x) in
      let old : row (rows ++ x ∷ []) n ≡ row rows n = row-push_old rows n x to in
      elim (maker_cases (maker_of (row rows n).kind)) [
        | inl none ↦
            let none_too : maker_of (row (rows ++ x ∷ []) n).kind ≡ None = rw old none in
            rw (chain_ends rows n from none, chain_ends (rows ++ x ∷ []) n from none_too) refl
        | inr made ↦
            let m = made.0 in
            let made_too : maker_of (row (rows ++ x ∷ []) n).kind ≡ Some m = rw old made.1 in
            let before = maker_before n m from to made.1 in
            rw (chain_goes_on rows precede n m from to made.1, chain_goes_on (rows ++ x ∷ []) all n m from more made_too)
            (ap (λ b. (n == r) || b) (is_within-push x k m r (omega (arith, before)) before.0 (omega (arith, before)) all))
      ]
