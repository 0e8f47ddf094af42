-- Going over the jobs that a tenant holds, by their numbers.
use Rattle.std.proofs.Common.{◌≡◌, ℕ, zero, suc, ◌+◌, ◌-◌, ◌<◌, ◌≤◌, List, [], ◌∷◌, ◌++◌, length, Option, Some, None, refl, sym, ap, ◌∙◌, arith, inl, inr, append-nil}
use Rattle.std.specs.Prelude.{IsSome, Bool, true, false, filter, filter_map, map, not, option_map, slice_get}
use Rattle.std.specs.List.{enumerate_from, range_with_len}
use Rattle.std.proofs.lemmas.Bool.{cases_lt}
use Rattle.std.proofs.lemmas.List.{map-append}
use Rattle.std.proofs.lemmas.List.Elements.{filter_map-append}
use Rattle.std.proofs.lemmas.Option.{slice_get_past}
use Rattle.job_language.specs.declared.answers.Status.{Status}
use Rattle.job_outcomes.specs.Outcomes.{outcome_seen}
use Rattle.job_outcomes.specs.declared.outcomes.JobOutcome.{JobOutcome}
use Rattle.tenant_model.specs.Asks.{known_job}
use Rattle.tenant_model.specs.Asks.{status}
use Rattle.tenant_model.specs.Solo.{job_table}
use Rattle.tenant_model.specs.State.{State, at_number}
use Rattle.tenant_model.specs.declared.works.Work.{Work}
use Rattle.tenant_record.specs.Replayed.{status_of}

-- the status of a job with its number, if it is held
abbrev pub outcome_in : State → ℕ → Option (ℕ × Status)
outcome_in s j = option_map (λ status. (j, status)) (status_of s j)

abbrev pub outcomes_in : State → (from count : ℕ) → List (ℕ × Status)
outcomes_in s k n = filter_map (outcome_in s) (range_with_len k n)

range_then : (a m n : ℕ) → range_with_len a (m + n) ≡ range_with_len a m ++ range_with_len (a + m) n
range_then a zero n =
    let none : zero + n ≡ n = omega arith in
    let same : a + zero ≡ a = omega arith in
    rw (none, same) refl
range_then a (suc m) n =
    let more : suc m + n ≡ suc (m + n) = omega arith in
    let place : a + suc m ≡ a + 1 + m = omega arith in
    rw (more, place) (ap (λ (r : List ℕ). a ∷ r) (range_then (a + 1) m n))

-- no job of these numbers is held
none_held : (s : State) (k n : ℕ) → ((j : ℕ) → k ≤ j → j < k + n → outcome_in s j ≡ None) → filter_map (outcome_in s) (range_with_len k n) ≡ []
none_held s k zero none = refl
none_held s k (suc n) none =
    let first : outcome_in s k ≡ None = none k (omega arith) (omega arith) in
    rw first (none_held s (k + 1) n (λ j from to. none j (omega (arith, from)) (omega (arith, to))))

no_outcome : (s : State) (j : ℕ) (o : Option Work) → known_job s j ≡ o → (IsSome (known_job s j) → ⊥) → outcome_in s j ≡ None
no_outcome s j None is unknown = rw is refl
no_outcome s j (Some w) is unknown = absurd (unknown (rw is refl))

-- a number past the last names no job
pub unknown_past : (s : State) (j : ℕ) → length s.jobs < j → known_job s j ≡ None
unknown_past s zero past = absurd (omega (arith, past))
unknown_past s (suc n) past =
    let none : at_number s.jobs (suc n) ≡ None = slice_get_past s.jobs n (omega (arith, past)) in
    rw none refl

known_within : (s : State) (j : ℕ) → IsSome (known_job s j) → j ≤ length s.jobs
known_within s j known = elim (cases_lt (length s.jobs) j) [
  | inl past ↦ absurd (let wrong = rw (unknown_past s j past) at known in grind (arith, wrong))
  | inr within ↦ omega (arith, within)
]

abbrev table_from : State → ℕ → List Work → List (ℕ × Status)
table_from s k jobs = map (λ (p : ℕ × Work). (p.0, status s.rows p.0 p.1)) (filter (λ (p : ℕ × Work). not p.1.retired) (enumerate_from k jobs))

-- one job's part of the table
table_next : (s : State) (k : ℕ) (w : Work) (jobs : List Work) (rest : List ℕ) (b : Bool) → w.retired ≡ b → at_number s.jobs k ≡ Some w → table_from s (k + 1) jobs ≡ filter_map (outcome_in s) rest →
    table_from s k (w ∷ jobs) ≡ filter_map (outcome_in s) (k ∷ rest)
table_next s k w jobs rest true retired here same = rw (retired, here, retired) same
table_next s k w jobs rest false current here same = rw (current, here, current) (ap (λ (xs : List (ℕ × Status)). (k, status s.rows k w) ∷ xs) same)

table_by_numbers : (s : State) (k : ℕ) (jobs : List Work) → ((i : ℕ) → at_number s.jobs (k + i) ≡ slice_get jobs i) → table_from s k jobs ≡ outcomes_in s k (length jobs)
table_by_numbers s k [] here = refl
table_by_numbers s k (w ∷ jobs) here =
    let first : k + 0 ≡ k = omega arith in
    let at : at_number s.jobs k ≡ Some w = ap (at_number s.jobs) (sym first) ∙ here 0 in
    table_next s k w jobs (range_with_len (k + 1) (length jobs)) w.retired refl at
    (table_by_numbers s (k + 1) jobs (λ i. let place : k + 1 + i ≡ k + suc i = omega arith in ap (at_number s.jobs) place ∙ here (suc i)))

-- the table of jobs is made of what each number names
pub table_by_number : (s : State) → job_table s ≡ outcomes_in s 1 (length s.jobs)
table_by_number s = table_by_numbers s 1 s.jobs (λ i. let place : 1 + i ≡ suc i = omega arith in ap (at_number s.jobs) place)

-- Those are the outcomes up to a number.
pub record AreSoFar (s : State) (last : ℕ) (so_far : List JobOutcome) : Type 0 where
  pub within : last ≤ length s.jobs
  pub held : map outcome_seen so_far ≡ outcomes_in s 1 last

pub none_so_far : (s : State) → AreSoFar s 0 []
none_so_far s = record { within = omega arith; held = refl }

-- the answer about the next number
abbrev pub IsNext : State → ℕ → Option ℕ → Type 0
IsNext s last next = (j : ℕ) → last < j → IsSome (known_job s j) → (n : ℕ) × (next ≡ Some n) × (n ≤ j)

some_same : (a b : ℕ) → Some a ≡ Some b → a ≡ b
some_same a b is = cc

none_some : (n : ℕ) → None ≡ Some n → ⊥
none_some n is = cc

-- no job between
none_between : (s : State) (last n : ℕ) → IsNext s last (Some n) → (j : ℕ) → last < j → j < n → outcome_in s j ≡ None
none_between s last n least j after before = no_outcome s j (known_job s j) refl (λ known.
    let found = least j after known in
    let same : n ≡ found.0 = some_same n found.0 found.1 in
    let low = found.2 in
    omega (arith, same, low, before))

module _ (s : State) (last : ℕ) (held : List JobOutcome) (is : AreSoFar s last held) where
  pub next_held : (n : ℕ) (status : Status) → last < n → IsSome (known_job s n) → IsNext s last (Some n) → status_of s n ≡ Some status → AreSoFar s n (held ++ record { job = n; status = status } ∷ [])
  next_held n status after known least told =
      let between = n - last - 1 in
      let parts : n ≡ last + (between + 1) = omega (arith, after) in
      let place : 1 + last + between ≡ n = omega (arith, after) in
      let f = outcome_in s in
      let one : outcomes_in s n 1 ≡ (n, status) ∷ [] = rw told refl in
      let middle : outcomes_in s (1 + last) between ≡ [] = none_held s (1 + last) between (λ j from to. none_between s last n least j (omega (arith, from)) (omega (arith, to, place))) in
      let rest : outcomes_in s (1 + last) (between + 1) ≡ (n, status) ∷ [] =
      ap (filter_map f) (range_then (1 + last) between 1) ∙ filter_map-append f (range_with_len (1 + last) between) (range_with_len (1 + last + between) 1) ∙
      ap (λ (xs : List (ℕ × Status)). xs ++ outcomes_in s (1 + last + between) 1) middle ∙ ap (λ k. outcomes_in s k 1) place ∙ one in
      let all : outcomes_in s 1 n ≡ outcomes_in s 1 last ++ (n, status) ∷ [] =
      ap (outcomes_in s 1) parts ∙ ap (filter_map f) (range_then 1 last (between + 1)) ∙ filter_map-append f (range_with_len 1 last) (range_with_len (1 + last) (between + 1)) ∙
      ap (λ (xs : List (ℕ × Status)). outcomes_in s 1 last ++ xs) rest in
      record {
        within = known_within s n known;
        held = map-append outcome_seen held (record { job = n; status = status } ∷ []) ∙ ap (λ (xs : List (ℕ × Status)). xs ++ (n, status) ∷ []) is.held ∙ sym all;
      }

  all_numbers : IsNext s last None → map outcome_seen held ≡ outcomes_in s 1 (length s.jobs)
  all_numbers least =
      let left = length s.jobs - last in
      let within = is.within in
      let parts : length s.jobs ≡ last + left = omega (arith, within) in
      let f = outcome_in s in
      let rest : outcomes_in s (1 + last) left ≡ [] =
      none_held s (1 + last) left (λ j from to. no_outcome s j (known_job s j) refl (λ known. let found = least j (omega (arith, from)) known in none_some found.0 found.1)) in
      let all : outcomes_in s 1 (length s.jobs) ≡ outcomes_in s 1 last ++ [] =
      ap (outcomes_in s 1) parts ∙ ap (filter_map f) (range_then 1 last left) ∙ filter_map-append f (range_with_len 1 last) (range_with_len (1 + last) left) ∙
      ap (λ (xs : List (ℕ × Status)). outcomes_in s 1 last ++ xs) rest in
      is.held ∙ sym (append-nil (outcomes_in s 1 last)) ∙ sym all

  pub all_held : IsNext s last None → map outcome_seen held ≡ job_table s
  all_held least = all_numbers least ∙ sym (table_by_number s)

no_status : (s : State) (j : ℕ) (o : Option Work) → known_job s j ≡ o → IsSome (known_job s j) → status_of s j ≡ None → ⊥
no_status s j None is known none = let wrong = rw is at known in grind (arith, wrong)
no_status s j (Some w) is known none = let wrong = rw is at none in grind (arith, wrong)

-- A job that is held has a status.
pub status_there : (s : State) (j : ℕ) → IsSome (known_job s j) → status_of s j ≡ None → ⊥
status_there s j known none = no_status s j (known_job s j) refl known none
