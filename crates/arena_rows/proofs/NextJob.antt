-- The next job that is held, by its number.
use Rattle.std.proofs.Common.{◌≡◌, ◌≢◌, ℕ, zero, suc, ◌+◌, ◌<◌, ◌≤◌, List, [], ◌∷◌, length, Option, Some, None, Bool, true, false, refl, sym, ap, ◌∙◌, arith, get_or, nat_lt, inl, inr}
use Rattle.std.specs.Prelude.{slice_get, IfSome, IsSome}
use Rattle.std.specs.Option.{option_map}
use Rattle.std.proofs.lemmas.Bool.{cases_eq, cases_lt}
use Rattle.std.proofs.lemmas.Option.{slice_get-get_or, slice_get_past}
use Rattle.tenant_model.specs.State.{State}
use Rattle.tenant_model.specs.Asks.{known_job}
use Rattle.tenant_model.proofs.Within.{either_way}
use Rattle.arena_rows.specs.declared.rows.CurrentJob.{CurrentJob}
use Rattle.arena_rows.specs.Held.{Held, NumbersRise, place_of}
use Rattle.arena_rows.specs.HeldChanges.{index_of, no_job}
use Rattle.arena_rows.specs.HeldJobs.{IsCurrent}
use Rattle.arena_rows.specs.HeldReads.{first_from}
use Rattle.arena_rows.specs.Represents.{Holds}
use Rattle.arena_rows.proofs.JobPlaces.{current_in}
use Rattle.arena_rows.proofs.JobsTold.{known_here, known_held}
use Rattle.std.proofs.lemmas.List.{get_or_default}

next_item : (x : CurrentJob) (xs : List CurrentJob) (k : ℕ) (d : CurrentJob) → get_or (x ∷ xs) (1 + k) d ≡ get_or xs k d
next_item x xs k d = let next : 1 + k ≡ suc k = omega arith in ap (λ m. get_or (x ∷ xs) m d) next

-- What stands where a number would stand is not smaller.
not_smaller : (jobs : List CurrentJob) (n : ℕ) (d : CurrentJob) → place_of jobs n < length jobs → n ≤ (get_or jobs (place_of jobs n) d).number
not_smaller [] n d below = absurd (omega (arith, below))
not_smaller (x ∷ xs) n d below = elim (either_way (nat_lt x.number n)) [
  | inr not_less ↦ rw not_less (grind (arith, not_less))
  | inl less ↦
      let place : place_of (x ∷ xs) n ≡ 1 + place_of xs n = rw less refl in
      let its = not_smaller xs n d (omega (arith, place, below)) in
      let item : (get_or (x ∷ xs) (place_of (x ∷ xs) n) d).number ≡ (get_or xs (place_of xs n) d).number =
      ap (λ k. (get_or (x ∷ xs) k d).number) place ∙ ap (λ (y : CurrentJob). y.number) (next_item x xs (place_of xs n) d) in
      omega (arith, its, item)
]

by_place : (x : CurrentJob) (xs : List CurrentJob) (n k : ℕ) (d : CurrentJob) → ((m : ℕ) → m < place_of xs n → (get_or xs m d).number < n) → k < 1 + place_of xs n → x.number < n →
    (get_or (x ∷ xs) k d).number < n
by_place x xs n zero d rest low first = first
by_place x xs n (suc k) d rest low first = rest k (omega (arith, low))

-- and all that stands before it is.
smaller_before : (jobs : List CurrentJob) (n k : ℕ) (d : CurrentJob) → k < place_of jobs n → (get_or jobs k d).number < n
smaller_before [] n k d before = absurd (omega (arith, before))
smaller_before (x ∷ xs) n k d before = elim (either_way (nat_lt x.number n)) [
  | inr not_less ↦ absurd (let none : place_of (x ∷ xs) n ≡ 0 = rw not_less refl in omega (arith, none, before))
  | inl less ↦
      let place : place_of (x ∷ xs) n ≡ 1 + place_of xs n = rw less refl in
      let first : x.number < n = grind (arith, less) in
      by_place x xs n k d (λ m low. smaller_before xs n m d low) (omega (arith, place, before)) first
]

module _ (a : Held) (s : State) (is : Holds a s) (after : ℕ) where
  abbrev i : ℕ
  i = index_of a (after + 1)

  held_at : (k : ℕ) → k < length a.jobs → IsCurrent a.jobs (get_or a.jobs k no_job).number
  held_at k below = current_in a (get_or a.jobs k no_job).number is.jobs.order
      (record { place = k; within = below; number = λ d. ap (λ (x : CurrentJob). x.number) (get_or_default a.jobs k d no_job below) })

  pub next_known : IfSome (first_from a (after + 1)) (λ n. (after < n) × IsSome (known_job s n))
  next_known = elim (cases_lt i (length a.jobs)) [
    | inr past ↦ let none = slice_get_past a.jobs i (omega (arith, past)) in rw none tt
    | inl below ↦
        let found = slice_get-get_or a.jobs i no_job below in
        let above = not_smaller a.jobs (after + 1) no_job below in
        let known = known_here a s is (get_or a.jobs i no_job).number (held_at i below) in
        let some : IsSome (known_job s (get_or a.jobs i no_job).number) = rw known refl in
        rw found (omega (arith, above), some)
  ]

  pub next_least : (j : ℕ) → after < j → IsSome (known_job s j) → (n : ℕ) × (first_from a (after + 1) ≡ Some n) × (n ≤ j)
  next_least j above some =
      let current = known_held a s is j some in
      let p = index_of a j in
      let its : (get_or a.jobs p no_job).number ≡ j = current.number no_job in
      elim (cases_lt p i) [
        | inl before ↦ absurd (let less = smaller_before a.jobs (after + 1) p no_job before in omega (arith, less, its, above))
        | inr not_before ↦
            let within = current.within in
            let below : i < length a.jobs = omega (arith, not_before, within) in
            let found = slice_get-get_or a.jobs i no_job below in
            let least : (get_or a.jobs i no_job).number ≤ j = elim (cases_eq i p) [
              | inl same ↦ omega (arith, ap (λ k. (get_or a.jobs k no_job).number) same, its)
              | inr other ↦ let less = is.jobs.order i p no_job (omega (arith, not_before, other)) within in omega (arith, less, its)
            ] in
            ((get_or a.jobs i no_job).number, ap (option_map (λ (x : CurrentJob). x.number)) found, least)
      ]
