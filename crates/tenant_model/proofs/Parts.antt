-- How changes of rows keep what stands on what, and how many rows are open.
use Rattle.std.proofs.Common.{◌≡◌, ℕ, ◌+◌, ◌-◌, ◌≤◌, List, [], ◌∷◌, ◌++◌, length, Some, Bool, true, false, refl, sym, ap, ◌∙◌, arith, inl, inr, ◌⊎◌, map}
use Rattle.std.specs.Prelude.{count_by}
use Rattle.std.specs.List.{enumerate_from}
use Rattle.std.proofs.lemmas.Bool.{cases_eq, cases_lt}
use Rattle.std.proofs.lemmas.List.{length_push, length-map}
use Rattle.std.proofs.lemmas.List.FromFn.{length-enumerate_from}
use Rattle.tenant_model.specs.declared.rows.Phase.{Phase}
use Rattle.tenant_model.specs.declared.rows.Phase.TheVariants.{Unstarted, Live, Done, Dropped, Faulted}
use Rattle.tenant_model.specs.declared.rows.Row.{Row}
use Rattle.tenant_model.specs.State.{State, row, with_at_number}
use Rattle.tenant_model.specs.Walks.{maker_of, is_region, is_within, is_open, is_live_at, is_context_cancelled, height, settled_row, settle}
use Rattle.tenant_model.specs.Changes.{open_rows}
use Rattle.tenant_model.specs.Linked.{MakersPrecede}
use Rattle.tenant_model.specs.WellFormed.{AreStacked, AreInside}
use Rattle.tenant_model.proofs.Changed.{row-get_or, row-past, row-with_same, row-with_other, row-push_old, row-push_new}
use Rattle.tenant_model.proofs.Linked.{SameSources}
use Rattle.tenant_model.proofs.Settling.{settle-get_or}
use Rattle.tenant_model.proofs.Stacking.{one_if, count-cons, count-with}
use Rattle.tenant_model.proofs.Stacked.{IsOff}
use Rattle.tenant_model.proofs.Within.{is_within-kinds, is_within-push, within_above, within_by_maker}
use Rattle.tenant_model.proofs.Insides.{live_there, live_low, AreInside-fewer, IsOnTop, AreInside-top}

abbrev slot_in : Phase → ℕ
slot_in (Live t h) = t
slot_in p = 0

abbrev height_in : Phase → ℕ
height_in (Live t h) = h
height_in p = 0

pub same_place : (slot h t k : ℕ) → Live slot h ≡ Live t k → (slot ≡ t) × (h ≡ k)
same_place slot h t k same = (ap slot_in same, ap height_in same)

pub off_live : {p : Phase} {slot h : ℕ} → IsOff p → p ≡ Live slot h → ⊥
off_live {p} {slot} {h} off live =
    let here : is_live_at slot h p ≡ true = rw live (grind arith) in
    grind (arith, off.at slot h, here)

-- a row of the settled rows
pub row-settle : (s : State) (n : ℕ) → 1 ≤ n → n ≤ length s.rows → row (settle s).rows n ≡ settled_row (row s.rows n) (is_context_cancelled s n)
row-settle s n from to =
    let long : length (settle s).rows ≡ length s.rows = length-map (enumerate_from 1 s.rows) _ ∙ length-enumerate_from 1 s.rows in
    let place : n - 1 + 1 ≡ n = omega arith in
    ap (row (settle s).rows) (sym place) ∙ sym (row-get_or (settle s).rows (n - 1) (row [] 0) (omega (arith, long))) ∙ settle-get_or s (n - 1) (row [] 0) (omega arith) ∙
    ap (λ m. settled_row (row s.rows m) (is_context_cancelled s m)) place

pub SameSources-settle : (s : State) → SameSources s.rows (settle s).rows
SameSources-settle s =
    let long : length (settle s).rows ≡ length s.rows = length-map (enumerate_from 1 s.rows) _ ∙ length-enumerate_from 1 s.rows in
    record {
      long = long;
      kinds = λ n. elim (cases_eq n 0) [
        | inl none ↦ rw none refl
        | inr some ↦ elim (cases_lt (length s.rows) n) [
          | inl past ↦ ap (λ (r : Row). r.kind) (row-past (settle s).rows n (omega (arith, past, long)) ∙ sym (row-past s.rows n past))
          | inr within ↦ ap (λ (r : Row). r.kind) (row-settle s n (omega (arith, some)) within)
        ]
      ];
      jobs = λ n. elim (cases_eq n 0) [
        | inl none ↦ rw none refl
        | inr some ↦ elim (cases_lt (length s.rows) n) [
          | inl past ↦ ap (λ (r : Row). r.job) (row-past (settle s).rows n (omega (arith, past, long)) ∙ sym (row-past s.rows n past))
          | inr within ↦ ap (λ (r : Row). r.job) (row-settle s n (omega (arith, some)) within)
        ]
      ];
    }

settled_lives : (r : Row) (b : Bool) (slot h : ℕ) (p : Phase) → r.phase ≡ p → (settled_row r b).phase ≡ Live slot h → p ≡ Live slot h
settled_lives r b slot h Unstarted is live =
    let no : is_live_at slot h (settled_row r b).phase ≡ false = rw is (grind arith) in
    let here : is_live_at slot h (settled_row r b).phase ≡ true = rw live (grind arith) in
    absurd (grind (arith, no, here))
settled_lives r b slot h (Live t k) is live = rw is at live
settled_lives r b slot h (Done v) is live = rw is at live
settled_lives r b slot h Dropped is live = rw is at live
settled_lives r b slot h Faulted is live = rw is at live

pub settle-lives : (s : State) (n slot h : ℕ) → (row (settle s).rows n).phase ≡ Live slot h → (row s.rows n).phase ≡ Live slot h
settle-lives s n slot h live =
    let there = live_there (settle s).rows n slot h live in
    let same = SameSources-settle s in
    let to : n ≤ length s.rows = omega (arith, there, same.long) in
    let here : (settled_row (row s.rows n) (is_context_cancelled s n)).phase ≡ Live slot h = ap (λ (r : Row). r.phase) (sym (row-settle s n there.0 to)) ∙ live in
    settled_lives (row s.rows n) (is_context_cancelled s n) slot h (row s.rows n).phase refl here

-- Not more rows are open.
count-fewer : (p : Row → Bool) (f : ℕ × Row → Row) → ((n : ℕ) (r : Row) → one_if (p (f (n, r))) ≤ one_if (p r)) → (k : ℕ) (rows : List Row) →
    count_by p (map f (enumerate_from k rows)) ≤ count_by p rows
count-fewer p f fewer k [] = omega arith
count-fewer p f fewer k (x ∷ xs) = omega (arith, count-cons p (f (k, x)) (map f (enumerate_from (k + 1) xs)), count-cons p x xs, fewer k x, count-fewer p f fewer (k + 1) xs)

settled_open : (r : Row) (b : Bool) (p : Phase) → r.phase ≡ p → one_if (is_open (settled_row r b).phase) ≤ one_if (is_open r.phase)
settled_open r b Unstarted is = rw is (grind arith)
settled_open r b (Live t h) is = rw is (omega arith)
settled_open r b (Done v) is = rw is (omega arith)
settled_open r b Dropped is = rw is (omega arith)
settled_open r b Faulted is = rw is (omega arith)

pub open-settle : (s : State) → open_rows (settle s).rows ≤ open_rows s.rows
open-settle s = count-fewer (λ (r : Row). is_open r.phase) (λ p. settled_row p.1 (is_context_cancelled s p.0)) (λ n r. settled_open r (is_context_cancelled s n) r.phase refl) 1 s.rows

module _ (rows : List Row) (n : ℕ) (r : Row) (from : 1 ≤ n) (to : n ≤ length rows) (kind : r.kind ≡ (row rows n).kind) where
  kinds_set : (m : ℕ) → (row (with_at_number rows n r) m).kind ≡ (row rows m).kind
  kinds_set m = elim (cases_eq m n) [
    | inl same ↦ rw same (ap (λ (q : Row). q.kind) (row-with_same rows n r from to) ∙ kind)
    | inr other ↦ ap (λ (q : Row). q.kind) (row-with_other rows n m r from other)
  ]

  -- The row is no longer live, or is where it was.
  pub AreInside-set : ((slot h : ℕ) → r.phase ≡ Live slot h → (row rows n).phase ≡ Live slot h) → AreInside rows → AreInside (with_at_number rows n r)
  AreInside-set lives inside = AreInside-fewer rows (with_at_number rows n r) kinds_set (λ m slot h live. elim (cases_eq m n) [
    | inl same ↦
        let here : r.phase ≡ Live slot h = ap (λ (q : Row). q.phase) (sym (ap (row (with_at_number rows n r)) same ∙ row-with_same rows n r from to)) ∙ live in
        rw same (lives slot h here)
    | inr other ↦ ap (λ (q : Row). q.phase) (sym (row-with_other rows n m r from other)) ∙ live
  ]) inside

  -- a row that stands on top now
  pub AreInside-set_top : (slot : ℕ) → MakersPrecede rows → AreStacked rows → r.phase ≡ Live slot (height rows slot + 1) →
      ((x low q : ℕ) → (row rows x).phase ≡ Live slot low → is_region (row rows q).kind ≡ true → is_within rows x q ≡ true → is_within rows n q ≡ true) → AreInside rows →
      AreInside (with_at_number rows n r)
  AreInside-set_top slot precede stacked on_top fits inside = AreInside-top rows (with_at_number rows n r) slot n precede stacked (record {
    kinds = λ q least most. kinds_set q;
    withins = λ x q least most. is_within-kinds rows (with_at_number rows n r) kinds_set x q;
    lives = λ x t h live. elim (cases_eq x n) [
      | inl same ↦
          let here : Live slot (height rows slot + 1) ≡ Live t h = sym on_top ∙ ap (λ (q : Row). q.phase) (sym (ap (row (with_at_number rows n r)) same ∙ row-with_same rows n r from to)) ∙ live in
          let both = same_place slot (height rows slot + 1) t h here in
          inl (same, sym both.0, sym both.1)
      | inr other ↦ inr (ap (λ (q : Row). q.phase) (sym (row-with_other rows n x r from other)) ∙ live)
    ];
    fits = λ x low q live is_one within. is_within-kinds rows (with_at_number rows n r) kinds_set n q ∙ fits x low q live is_one within;
  }) inside

  pub open-set : one_if (is_open r.phase) ≤ one_if (is_open (row rows n).phase) → open_rows (with_at_number rows n r) ≤ open_rows rows
  open-set fewer = omega (arith, fewer, count-with (λ (q : Row). is_open q.phase) rows n r from to)

module _ (rows : List Row) (r : Row) (precede : MakersPrecede rows) (all : MakersPrecede (rows ++ r ∷ [])) where
  push_lives : (x t h : ℕ) → (row (rows ++ r ∷ []) x).phase ≡ Live t h → ((x ≡ length rows + 1) × (r.phase ≡ Live t h)) ⊎ ((row rows x).phase ≡ Live t h)
  push_lives x t h live =
      let there = live_there (rows ++ r ∷ []) x t h live in
      elim (cases_lt (length rows) x) [
        | inl after ↦
            let new : x ≡ length rows + 1 = omega (arith, after, there, length_push rows r) in
            inl (new, ap (λ (q : Row). q.phase) (sym (row-push_new rows x r new)) ∙ live)
        | inr before ↦ inr (ap (λ (q : Row). q.phase) (sym (row-push_old rows x r before)) ∙ live)
      ]

  push_on_top : (slot m : ℕ) → ((x t h : ℕ) → (row (rows ++ r ∷ []) x).phase ≡ Live t h → ((x ≡ m) × (t ≡ slot) × (h ≡ height rows slot + 1)) ⊎ ((row rows x).phase ≡ Live t h)) →
      ((x low q : ℕ) → (row rows x).phase ≡ Live slot low → is_region (row rows q).kind ≡ true → is_within rows x q ≡ true → is_within (rows ++ r ∷ []) m q ≡ true) →
      IsOnTop rows (rows ++ r ∷ []) slot m
  push_on_top slot m lives fits = record {
    kinds = λ q least most. ap (λ (x : Row). x.kind) (row-push_old rows q r most);
    withins = λ x q least most. is_within-push rows precede r x x q (omega arith) least most all;
    lives = lives;
    fits = fits;
  }

  -- a new row on no slot
  pub AreInside-push : AreStacked rows → IsOff r.phase → AreInside rows → AreInside (rows ++ r ∷ [])
  AreInside-push stacked off inside x y slot low high q x_live y_live le is_one within = elim (push_lives x slot low x_live) [
    | inl new ↦ absurd (off_live off new.1)
    | inr old_x ↦ elim (push_lives y slot high y_live) [
      | inl new ↦ absurd (off_live off new.1)
      | inr old_y ↦
          let there_x = live_there rows x slot low old_x in
          let there_y = live_there rows y slot high old_y in
          let before : is_within rows x q ≡ true = sym (is_within-push rows precede r x x q (omega arith) there_x.0 there_x.1 all) ∙ within in
          let above = within_above rows precede x x q (omega arith) there_x.0 there_x.1 before in
          let region : is_region (row rows q).kind ≡ true = ap (λ (z : Row). is_region z.kind) (sym (row-push_old rows q r (omega (arith, above, there_x)))) ∙ is_one in
          is_within-push rows precede r y y q (omega arith) there_y.0 there_y.1 all ∙ inside x y slot low high q old_x old_y le region before
    ]
  ]

  -- a new row on top of the row that made it
  pub AreInside-push_top : (slot n : ℕ) → AreStacked rows → r.phase ≡ Live slot (height rows slot + 1) → maker_of r.kind ≡ Some n → (row rows n).phase ≡ Live slot (height rows slot) → AreInside rows →
      AreInside (rows ++ r ∷ [])
  AreInside-push_top slot n stacked on_top made top inside =
      let m = length rows + 1 in
      let there = live_there rows n slot (height rows slot) top in
      let new : row (rows ++ r ∷ []) m ≡ r = row-push_new rows m r refl in
      let made_here : maker_of (row (rows ++ r ∷ []) m).kind ≡ Some n = rw new made in
      AreInside-top rows (rows ++ r ∷ []) slot m precede stacked (push_on_top slot m
      (λ x t h live. elim (push_lives x t h live) [
        | inl is ↦ let both = same_place slot (height rows slot + 1) t h (sym on_top ∙ is.1) in inl (is.0, sym both.0, sym both.1)
        | inr old ↦ inr old
      ])
      (λ x low q live is_one within.
      let below = live_low rows stacked x slot low live in
      let maker : is_within rows n q ≡ true = inside x n slot low (height rows slot) q live top below.1 is_one within in
      within_by_maker (rows ++ r ∷ []) all m n q (omega arith) (omega (arith, length_push rows r)) made_here (is_within-push rows precede r n n q (omega arith) there.0 there.1 all ∙ maker))) inside

  -- a new row on an empty slot
  pub AreInside-push_first : (slot : ℕ) → AreStacked rows → r.phase ≡ Live slot 1 → height rows slot ≡ 0 → AreInside rows → AreInside (rows ++ r ∷ [])
  AreInside-push_first slot stacked on_top empty inside =
      let m = length rows + 1 in
      AreInside-top rows (rows ++ r ∷ []) slot m precede stacked (push_on_top slot m
      (λ x t h live. elim (push_lives x t h live) [
        | inl is ↦ let both = same_place slot 1 t h (sym on_top ∙ is.1) in inl (is.0, sym both.0, omega (arith, both, empty))
        | inr old ↦ inr old
      ])
      (λ x low q live is_one within.
      let below = live_low rows stacked x slot low live in
      absurd (omega (arith, below, empty)))) inside
