-- Marks, after a change of rows.
use Rattle.std.proofs.Common.{◌≡◌, ℕ, zero, suc, ◌≤◌, List, [], ◌∷◌, ◌++◌, length, false, refl, ap, ◌∙◌, arith, inl, inr, map}
use Rattle.std.specs.Prelude.{slice_index_or, slice_set}
use Rattle.std.specs.List.{enumerate_from}
use Rattle.std.proofs.lemmas.Bool.{cases_eq, cases_lt}
use Rattle.std.proofs.lemmas.List.{length_push, length-map}
use Rattle.std.proofs.lemmas.List.FromFn.{length-enumerate_from}
use Rattle.tenant_model.specs.declared.rows.Mark.{Mark}
use Rattle.tenant_model.specs.declared.rows.Row.{Row}
use Rattle.tenant_model.specs.State.{State, no_marks, row, with_at_number}
use Rattle.tenant_model.specs.Walks.{mark, settle}
use Rattle.tenant_model.specs.WellFormed.{AreMarked}
use Rattle.tenant_model.proofs.Changed.{row-past, row-with_same, row-with_other, row-push_old, row-push_new, row-map, length-with}
use Rattle.tenant_model.proofs.Parts.{row-settle}

-- the mark of a group among a row's
abbrev pub mark_in : List Mark → ℕ → Mark
mark_in marks g = slice_index_or marks g (record { rows = 0; cancelled = false })

no_mark : (g : ℕ) → (mark_in no_marks g).rows ≡ 0
no_mark zero = refl
no_mark (suc zero) = refl
no_mark (suc (suc zero)) = refl
no_mark (suc (suc (suc zero))) = refl
no_mark (suc (suc (suc (suc g)))) = refl

no_row_marked : (n g : ℕ) → (mark [] n g).rows ≡ 0
no_row_marked zero g = no_mark g
no_row_marked (suc n) g = no_mark g

-- it suffices to look at the rows that are there
marked_there : (rows : List Row) → ((n g : ℕ) → 1 ≤ n → n ≤ length rows → (mark rows n g).rows ≤ length rows) → AreMarked rows
marked_there rows each n g = elim (cases_eq n 0) [
  | inl none ↦ let no : (mark rows n g).rows ≡ 0 = rw none (no_mark g) in omega (arith, no)
  | inr some ↦ elim (cases_lt (length rows) n) [
    | inl past ↦ let no : (mark rows n g).rows ≡ 0 = rw (row-past rows n past) (no_row_marked n g) in omega (arith, no)
    | inr within ↦ each n g (omega (arith, some)) within
  ]
]

pub AreMarked-none : AreMarked []
AreMarked-none n g = omega (arith, no_row_marked n g)

pub AreMarked-settle : (s : State) → AreMarked s.rows → AreMarked (settle s).rows
AreMarked-settle s is = marked_there (settle s).rows (λ n g from to.
    let long : length (settle s).rows ≡ length s.rows = length-map (enumerate_from 1 s.rows) _ ∙ length-enumerate_from 1 s.rows in
    let same : (mark (settle s).rows n g).rows ≡ (mark s.rows n g).rows = ap (λ (r : Row). (mark_in r.marks g).rows) (row-settle s n from (omega (arith, to, long))) in
    omega (arith, same, long, is n g))

-- a row changed
pub AreMarked-set : (rows : List Row) (n : ℕ) (r : Row) → 1 ≤ n → n ≤ length rows → ((g : ℕ) → (mark_in r.marks g).rows ≤ length rows) → AreMarked rows → AreMarked (with_at_number rows n r)
AreMarked-set rows n r from to fits is m g =
    let long = length-with rows n r in
    elim (cases_eq m n) [
      | inl same ↦
          let new : (mark (with_at_number rows n r) m g).rows ≡ (mark_in r.marks g).rows =
          ap (λ (x : Row). (mark_in x.marks g).rows) (ap (row (with_at_number rows n r)) same ∙ row-with_same rows n r from to) in
          omega (arith, new, long, fits g)
      | inr other ↦
          let old : (mark (with_at_number rows n r) m g).rows ≡ (mark rows m g).rows = ap (λ (x : Row). (mark_in x.marks g).rows) (row-with_other rows n m r from other) in
          omega (arith, old, long, is m g)
    ]

-- a new row, without marks
pub AreMarked-push : (rows : List Row) (r : Row) → r.marks ≡ no_marks → AreMarked rows → AreMarked (rows ++ r ∷ [])
AreMarked-push rows r none is = marked_there (rows ++ r ∷ []) (λ n g from to.
    let long = length_push rows r in
    elim (cases_lt (length rows) n) [
      | inl after ↦
          let new : (mark (rows ++ r ∷ []) n g).rows ≡ (mark_in no_marks g).rows =
          ap (λ (x : Row). (mark_in x.marks g).rows) (row-push_new rows n r (omega (arith, after, to, long))) ∙ ap (λ marks. (mark_in marks g).rows) none in
          omega (arith, new, no_mark g)
      | inr before ↦
          let old : (mark (rows ++ r ∷ []) n g).rows ≡ (mark rows n g).rows = ap (λ (x : Row). (mark_in x.marks g).rows) (row-push_old rows n r before) in
          omega (arith, old, long, is n g)
    ])

-- rows whose phases changed
pub AreMarked-map : (f : Row → Row) (rows : List Row) → ((r : Row) → (f r).marks ≡ r.marks) → AreMarked rows → AreMarked (map f rows)
AreMarked-map f rows same is = marked_there (map f rows) (λ n g from to.
    let long = length-map rows f in
    let as_before : (mark (map f rows) n g).rows ≡ (mark rows n g).rows =
    ap (λ (x : Row). (mark_in x.marks g).rows) (row-map f rows n from (omega (arith, to, long))) ∙ ap (λ marks. (mark_in marks g).rows) (same (row rows n)) in
    omega (arith, as_before, long, is n g))

-- a mark changed among a row's
pub mark_fits : (marks : List Mark) (g : ℕ) (m : Mark) (most : ℕ) → m.rows ≤ most → ((k : ℕ) → (mark_in marks k).rows ≤ most) → (k : ℕ) → (mark_in (slice_set marks g m) k).rows ≤ most
mark_fits [] g m most fits all k = all k
mark_fits (x ∷ xs) zero m most fits all zero = fits
mark_fits (x ∷ xs) zero m most fits all (suc k) = all (suc k)
mark_fits (x ∷ xs) (suc g) m most fits all zero = all zero
mark_fits (x ∷ xs) (suc g) m most fits all (suc k) = mark_fits xs g m most fits (λ i. all (suc i)) k
