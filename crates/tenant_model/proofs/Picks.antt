-- The top of a slot, and the row that it picks.
use Rattle.std.proofs.Common.{◌≡◌, ℕ, suc, ◌+◌, ◌<◌, ◌≤◌, List, [], ◌∷◌, length, Option, Some, None, Bool, true, ◌&&◌, refl, sym, ap, ◌∙◌, arith, inl, inr, ◌⊎◌, get_or}
use Rattle.std.specs.Prelude.{count_by, find, All, is_some, unwrap_or}
use Rattle.std.specs.List.{enumerate_from}
use Rattle.std.specs.Option.{option_map}
use Rattle.std.proofs.lemmas.Bool.{cases_lt}
use Rattle.std.proofs.lemmas.List.Elements.{All-filter, All-from_get_or, filter_passes}
use Rattle.std.proofs.lemmas.List.FromFn.{length-enumerate_from, get_or-enumerate_from}
use Rattle.job_language.specs.declared.tenants.Isolation.{Isolation}
use Rattle.tenant_model.specs.declared.rows.Phase.{Phase}
use Rattle.tenant_model.specs.declared.rows.Phase.TheVariants.{Unstarted, Live, Done, Dropped, Faulted}
use Rattle.tenant_model.specs.declared.rows.Row.{Row}
use Rattle.tenant_model.specs.State.{row}
use Rattle.tenant_model.specs.Walks.{NumberedRow, numbered_rows, is_live_at, is_unstarted, height, top, region_on, is_allowed, eligible, first_of, last_or, pick_of}
use Rattle.tenant_model.specs.WellFormed.{AreStacked}
use Rattle.tenant_model.proofs.Within.{either_way}
use Rattle.tenant_model.proofs.Changed.{row-get_or}
use Rattle.tenant_model.proofs.Stacking.{one_if, count-cons}

-- a row with its own number
abbrev pub IsNumbered : List Row → NumberedRow → Type 0
IsNumbered rows p = (1 ≤ p.0) × (p.0 ≤ length rows) × (row rows p.0 ≡ p.1)

pub numbered_all : (rows : List Row) → All (IsNumbered rows) (numbered_rows rows)
numbered_all rows = All-from_get_or (IsNumbered rows) (numbered_rows rows) (0, row [] 0) (λ i within.
    let there : i < length rows = omega (arith, within, length-enumerate_from 1 rows) in
    let here = get_or-enumerate_from 1 rows i (0, row [] 0) there in
    let place : 1 + i ≡ i + 1 = omega arith in
    let found : row rows (1 + i) ≡ get_or rows i (row [] 0) = ap (row rows) place ∙ sym (row-get_or rows i (row [] 0) there) in
    rw here (omega arith, omega (arith, there), found))

all_head : {A : Type 0} (P : A → Type 0) (x : A) (xs : List A) → All P (x ∷ xs) → P x
all_head P x xs all = all 0 x (omega arith)

all_tail : {A : Type 0} (P : A → Type 0) (x : A) (xs : List A) → All P (x ∷ xs) → All P xs
all_tail P x xs all = λ k d within. all (suc k) d (omega arith)

-- what holds of all items holds of the one that is found
pub found_holds : {A : Type 0} (P : A → Type 0) (p : A → Bool) (xs : List A) (x : A) → All P xs → find p xs ≡ Some x → P x × (p x ≡ true)
found_holds P p [] x all is = absurd (grind (arith, ap is_some is))
found_holds P p (y ∷ ys) x all is = elim (either_way (p y)) [
  | inl passed ↦
      let found : Some y ≡ Some x = rw passed at is in
      let e : y ≡ x = ap (λ o. unwrap_or o y) found in
      rw (sym e) (all_head P y ys all, passed)
  | inr failed ↦
      let later : find p ys ≡ Some x = rw failed at is in
      found_holds P p ys x (all_tail P y ys all) later
]

last_holds : (P : NumberedRow → Type 0) (o : Option ℕ) (xs : List NumberedRow) (m : ℕ) → All P xs → last_or o xs ≡ Some m → (o ≡ Some m) ⊎ ((x : NumberedRow) × P x × (x.0 ≡ m))
last_holds P o [] m all is = inl is
last_holds P o (y ∷ ys) m all is = elim (last_holds P (Some y.0) ys m (all_tail P y ys all) is) [
  | inl same ↦ inr (y, all_head P y ys all, ap (λ o. unwrap_or o 0) same)
  | inr later ↦ inr later
]

first_holds : (P : NumberedRow → Type 0) (xs : List NumberedRow) (m : ℕ) → All P xs → first_of xs ≡ Some m → (x : NumberedRow) × P x × (x.0 ≡ m)
first_holds P [] m all is = absurd (grind (arith, ap is_some is))
first_holds P (y ∷ ys) m all is = (y, all_head P y ys all, ap (λ o. unwrap_or o 0) is)

pub live_is : (slot h : ℕ) (p : Phase) → is_live_at slot h p ≡ true → p ≡ Live slot h
live_is slot h Unstarted is = absurd (grind (arith, is))
live_is slot h (Live t k) is =
    let on : t ≡ slot = grind (arith, is) in
    let at : k ≡ h = grind (arith, is) in
    rw (on, at) refl
live_is slot h (Done v) is = absurd (grind (arith, is))
live_is slot h Dropped is = absurd (grind (arith, is))
live_is slot h Faulted is = absurd (grind (arith, is))

found_top : (rows : List Row) (slot n : ℕ) (o : Option NumberedRow) → find (λ (p : NumberedRow). is_live_at slot (height rows slot) p.1.phase) (numbered_rows rows) ≡ o →
    option_map (λ (p : NumberedRow). p.0) o ≡ Some n → (1 ≤ n) × (n ≤ length rows) × ((row rows n).phase ≡ Live slot (height rows slot))
found_top rows slot n None found is = absurd (grind (arith, ap is_some is))
found_top rows slot n (Some p) found is =
    let e : p.0 ≡ n = ap (λ o. unwrap_or o 0) is in
    let holds = found_holds (IsNumbered rows) _ (numbered_rows rows) p (numbered_all rows) found in
    rw (sym e) (holds.0.0, holds.0.1, rw holds.0.2 (live_is slot (height rows slot) p.1.phase holds.1))

-- The top of a slot is live at the slot's height.
pub top_is : (rows : List Row) (slot n : ℕ) → top rows slot ≡ Some n → (1 ≤ n) × (n ≤ length rows) × ((row rows n).phase ≡ Live slot (height rows slot))
top_is rows slot n is = found_top rows slot n (find (λ (p : NumberedRow). is_live_at slot (height rows slot) p.1.phase) (numbered_rows rows)) refl is

All-both : (P Q : NumberedRow → Type 0) (xs : List NumberedRow) → All P xs → All Q xs → All (λ x. P x × Q x) xs
All-both P Q xs ps qs = λ k d within. (ps k d within, qs k d within)

picked_is : (mode : Isolation) (rows : List Row) (slot m : ℕ) →
    (x : NumberedRow) × (IsNumbered rows x × ((is_unstarted x.1.phase && is_allowed mode rows (region_on rows (top rows slot)) x.0) ≡ true)) × (x.0 ≡ m) →
    (1 ≤ m) × (m ≤ length rows) × (is_unstarted (row rows m).phase ≡ true) × (is_allowed mode rows (region_on rows (top rows slot)) m ≡ true)
picked_is mode rows slot m found =
    let x = found.0 in
    let unstarted : is_unstarted x.1.phase ≡ true = grind (arith, found.1.1) in
    let allowed : is_allowed mode rows (region_on rows (top rows slot)) x.0 ≡ true = grind (arith, found.1.1) in
    let at_number = found.1.0 in
    rw (sym found.2) (at_number.0, at_number.1, rw at_number.2 unstarted, allowed)

-- What a slot picks has not started, and it may take it.
pub pick_is : (mode : Isolation) (rows : List Row) (slot m : ℕ) → pick_of mode rows slot ≡ Some m →
    (1 ≤ m) × (m ≤ length rows) × (is_unstarted (row rows m).phase ≡ true) × (is_allowed mode rows (region_on rows (top rows slot)) m ≡ true)
pick_is mode rows slot m is =
    let region = region_on rows (top rows slot) in
    let test : NumberedRow → Bool = λ p. is_unstarted p.1.phase && is_allowed mode rows region p.0 in
    let P : NumberedRow → Type 0 = λ p. IsNumbered rows p × (test p ≡ true) in
    let all : All P (eligible mode rows slot) =
    All-both (IsNumbered rows) (λ p. test p ≡ true) (eligible mode rows slot) (All-filter test (IsNumbered rows) (numbered_rows rows) (numbered_all rows))
    (filter_passes test (numbered_rows rows)) in
    elim (last_holds P (first_of (eligible mode rows slot)) _ m (All-filter _ P (eligible mode rows slot) all) is) [
      | inl oldest ↦ picked_is mode rows slot m (first_holds P (eligible mode rows slot) m all oldest)
      | inr newest ↦ picked_is mode rows slot m newest
    ]

found_none : (f : Row → Bool) (k : ℕ) (rows : List Row) → find (λ (p : NumberedRow). f p.1) (enumerate_from k rows) ≡ None → count_by f rows ≡ 0
found_none f k [] none = refl
found_none f k (x ∷ xs) none = elim (either_way (f x)) [
  | inl passed ↦
      let first : NumberedRow = (k, x) in
      let some : Some first ≡ None = rw passed at none in
      absurd (grind (arith, ap is_some some))
  | inr failed ↦
      let later : find (λ (p : NumberedRow). f p.1) (enumerate_from (k + 1) xs) ≡ None = rw failed at none in
      let zero_here : one_if (f x) ≡ 0 = rw failed refl in
      omega (arith, count-cons f x xs, zero_here, found_none f (k + 1) xs later)
]

found_no_top : (o : Option NumberedRow) → option_map (λ (p : NumberedRow). p.0) o ≡ None → o ≡ None
found_no_top None none = refl
found_no_top (Some p) none = absurd (grind (arith, ap is_some none))

-- A slot without a top is empty.
pub top_none : (rows : List Row) (slot : ℕ) → AreStacked rows → top rows slot ≡ None → height rows slot ≡ 0
top_none rows slot stacked none =
    let h = height rows slot in
    let no_row = found_none (λ (r : Row). is_live_at slot h r.phase) 1 rows (found_no_top _ none) in
    elim (cases_lt 0 h) [
      | inl some ↦ absurd (omega (arith, no_row, stacked.one_at_each slot h some (omega arith)))
      | inr none_there ↦ omega (arith, none_there)
    ]
