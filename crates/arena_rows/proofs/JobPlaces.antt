-- Where a job stands among those that are held, and what it says of the state.
use Rattle.std.proofs.Common.{◌≡◌, ◌≢◌, ℕ, zero, suc, ◌+◌, ◌-◌, ◌<◌, ◌≤◌, List, [], ◌∷◌, ◌++◌, length, Bool, true, false, refl, sym, ap, ◌∙◌, arith, get_or, nat_lt, inl, inr, subst}
use Rattle.std.specs.Prelude.{slice_set, count_by}
use Rattle.std.specs.List.{AllWithin}
use Rattle.std.specs.List.Sorted.{IsPartitionedBy}
use Rattle.std.proofs.lemmas.Bool.{cases_eq, cases_lt}
use Rattle.std.proofs.lemmas.List.{get_or-set_same, get_or-set_other, length-set}
use Rattle.tenant_model.specs.declared.works.Work.{Work}
use Rattle.tenant_model.specs.State.{State, job, with_at_number}
use Rattle.tenant_model.proofs.Changed.{numbered_or, with_at_number-from}
use Rattle.tenant_model.proofs.Stacking.{one_if}
use Rattle.arena_rows.specs.declared.rows.CurrentJob.{CurrentJob}
use Rattle.arena_rows.specs.Held.{Held, NumbersRise, place_of}
use Rattle.arena_rows.specs.HeldChanges.{index_of, no_job}
use Rattle.arena_rows.specs.HeldJobs.{IsCurrent}
use Rattle.arena_rows.specs.Represents.{IsKept, IsJob, HasJob, Holds}
use Rattle.std.proofs.lemmas.List.Sums.{sum_by-set, sum_by-append}

-- A job changed changes a count of jobs by itself alone.
pub count-with_job : (p : Work → Bool) (ws : List Work) (n : ℕ) (w : Work) → 1 ≤ n → n ≤ length ws → count_by p (with_at_number ws n w) + one_if (p (job ws n)) ≡ count_by p ws + one_if (p w)
count-with_job p ws n w from to =
    let none : Work = job [] 0 in
    let here : n - 1 < length ws = omega (arith, from, to) in
    let set = sum_by-set (λ x. one_if (p x)) ws (n - 1) w none here in
    let found : one_if (p (job ws n)) ≡ one_if (p (get_or ws (n - 1) none)) = ap (λ x. one_if (p x)) (numbered_or ws none n from) in
    let whole : count_by p (with_at_number ws n w) ≡ count_by p (slice_set ws (n - 1) w) = ap (count_by p) (with_at_number-from ws n w from) in
    omega (arith, set, found, whole)

-- A job more adds itself.
pub count-push_job : (p : Work → Bool) (ws : List Work) (w : Work) → count_by p (ws ++ w ∷ []) ≡ count_by p ws + one_if (p w)
count-push_job p ws w = sum_by-append (λ x. one_if (p x)) ws (w ∷ []) ∙ omega arith

-- the numbers rise among all but the first
rest_rises : (x : CurrentJob) (xs : List CurrentJob) → NumbersRise (x ∷ xs) → NumbersRise xs
rest_rises x xs rise i k d low below = rise (suc i) (suc k) d (omega (arith, low)) (omega (arith, below))

-- The job of a number has as many before it as stand before it.
pub place-at : (jobs : List CurrentJob) (j i : ℕ) → NumbersRise jobs → i < length jobs → ((d : CurrentJob) → (get_or jobs i d).number ≡ j) → place_of jobs j ≡ i
place-at [] j i rise below is = absurd (omega (arith, below))
place-at (x ∷ xs) j zero rise below is =
    let first : x.number ≡ j = is x in
    let no : nat_lt x.number j ≡ false = grind (arith, first) in
    rw no refl
place-at (x ∷ xs) j (suc i) rise below is =
    let less : x.number < (get_or xs i x).number = rise 0 (suc i) x (omega arith) below in
    let its : (get_or xs i x).number ≡ j = is x in
    let before : x.number < j = omega (arith, less, its) in
    let yes : nat_lt x.number j ≡ true = grind (arith, before) in
    let rest = place-at xs j i (rest_rises x xs rise) (omega (arith, below)) is in
    rw yes (omega (arith, rest))

-- So has the place before which all numbers are smaller, and behind which none is.
pub place-between : (jobs : List CurrentJob) (j r : ℕ) → r ≤ length jobs → AllWithin (λ (it : CurrentJob). nat_lt it.number j ≡ true) jobs 0 r →
    AllWithin (λ (it : CurrentJob). nat_lt it.number j ≡ false) jobs r (length jobs) → place_of jobs j ≡ r
place-between [] j r most smaller others = omega (arith, most)
place-between (x ∷ xs) j zero most smaller others =
    let no : nat_lt x.number j ≡ false = others 0 x (omega arith) (omega arith) in
    rw no refl
place-between (x ∷ xs) j (suc r) most smaller others =
    let yes : nat_lt x.number j ≡ true = smaller 0 x (omega arith) (omega arith) in
    let rest = place-between xs j r (omega (arith, most)) (λ k d low high. smaller (suc k) d (omega arith) (omega (arith, high)))
    (λ k d low high. others (suc k) d (omega (arith, low)) (omega (arith, high))) in
    rw yes (omega (arith, rest))

-- Where the numbers rise, the smaller ones come first.
pub smaller-first : (jobs : List CurrentJob) (j : ℕ) → NumbersRise jobs → IsPartitionedBy (λ (it : CurrentJob). nat_lt it.number j) jobs
smaller-first jobs j rise i k d order below smaller = elim (cases_eq i k) [
  | inl same ↦ ap (λ n. nat_lt (get_or jobs n d).number j) same ∙ smaller
  | inr other ↦
      let less : (get_or jobs i d).number < (get_or jobs k d).number = rise i k d (omega (arith, order, other)) below in
      grind (arith, less, smaller)
]

pub current_in : (a : Held) (j : ℕ) → NumbersRise a.jobs → HasJob a.jobs j → IsCurrent a.jobs j
current_in a j order has =
    let at : index_of a j ≡ has.place = place-at a.jobs j has.place order has.within has.number in
    record { order = order; within = omega (arith, at, has.within); number = λ d. ap (λ k. (get_or a.jobs k d).number) at ∙ has.number d }

-- No two jobs have the same number.
pub numbers-apart : (jobs : List CurrentJob) (i k : ℕ) (d : CurrentJob) → NumbersRise jobs → i < length jobs → k < length jobs → i ≢ k → (get_or jobs i d).number ≢ (get_or jobs k d).number
numbers-apart jobs i k d rise low high other same = elim (cases_lt i k) [
  | inl before ↦ let less = rise i k d before high in omega (arith, less, same)
  | inr after ↦ let less = rise k i d (omega (arith, after, other)) low in omega (arith, less, same)
]

-- A job that has the same number as the one whose place it takes.
module _ (jobs : List CurrentJob) (i : ℕ) (it : CurrentJob) (below : i < length jobs) (same : (d : CurrentJob) → it.number ≡ (get_or jobs i d).number) where
  pub number-set : (k : ℕ) (d : CurrentJob) → (get_or (slice_set jobs i it) k d).number ≡ (get_or jobs k d).number
  number-set k d = elim (cases_eq k i) [
    | inl here ↦ ap (λ n. (get_or (slice_set jobs i it) n d).number) here ∙ ap (λ (x : CurrentJob). x.number) (get_or-set_same jobs i it d below) ∙ same d ∙
        ap (λ n. (get_or jobs n d).number) (sym here)
    | inr other ↦ ap (λ (x : CurrentJob). x.number) (get_or-set_other jobs i k it d other)
  ]

  pub rise-set : NumbersRise jobs → NumbersRise (slice_set jobs i it)
  rise-set rise m k d order within =
      let less = rise m k d order (omega (arith, within, length-set jobs i it)) in
      omega (arith, less, number-set m d, number-set k d)

  pub has-set : (j : ℕ) → HasJob jobs j → HasJob (slice_set jobs i it) j
  has-set j has = record { place = has.place; within = omega (arith, has.within, length-set jobs i it); number = λ d. number-set has.place d ∙ has.number d }

module _ (a : Held) (s : State) (is : Holds a s) where
  -- A job that is kept is held,
  pub current_told : (j : ℕ) → IsKept s.jobs j → j ≤ length s.jobs → IsCurrent a.jobs j
  current_told j kept to = current_in a j is.jobs.order (is.jobs.all j kept to)

  -- and what is held is kept.
  module _ (j : ℕ) (current : IsCurrent a.jobs j) where
    pub held_there : (1 ≤ j) × (j ≤ length s.jobs)
    held_there =
        let its = is.jobs.there (index_of a j) no_job current.within in
        let number = current.number no_job in
        (omega (arith, its, number), omega (arith, its, number))

    pub held_work : (d : CurrentJob) → job s.jobs j ≡ (get_or a.jobs (index_of a j) d).work
    held_work d = ap (job s.jobs) (sym (current.number d)) ∙ is.jobs.works (index_of a j) d current.within

    pub held_is : (d : CurrentJob) → IsJob s.rows is.assigned j (get_or a.jobs (index_of a j) d)
    held_is d = subst (λ k. IsJob s.rows is.assigned k (get_or a.jobs (index_of a j) d)) (current.number d) (is.jobs.each (index_of a j) d current.within)

    pub held_kept : IsKept s.jobs j
    held_kept = record { from = held_there.0; kept = ap (λ (w : Work). w.retired) (held_work no_job) ∙ (held_is no_job).current }
