-- Looking for a job among those that a tenant holds.
use Rattle.std.proofs.Common.{◌≡◌, ℕ, zero, suc, ◌+◌, ◌==◌, ◌<◌, ◌≤◌, List, [], ◌∷◌, length, Option, Some, None, true, false, refl, sym, ap, ◌∙◌, arith, inl, inr}
use Rattle.std.specs.Prelude.{Bool, filter_map, find, map, option_map}
use Rattle.std.specs.List.{range_with_len}
use Rattle.std.proofs.lemmas.Bool.{cases_eq, cases_lt}
use Rattle.job_language.specs.declared.answers.Status.{Status}
use Rattle.job_outcomes.specs.Outcomes.{is_of, outcome_seen, polled}
use Rattle.job_outcomes.specs.declared.outcomes.JobOutcome.{JobOutcome}
use Rattle.job_outcomes.proofs.Held.{outcome_in, table_by_number, unknown_past}
use Rattle.tenant_model.specs.Asks.{known_job, status}
use Rattle.tenant_model.specs.Changes.{entry}
use Rattle.tenant_model.specs.Solo.{job_table}
use Rattle.tenant_model.specs.State.{State}
use Rattle.tenant_model.specs.declared.works.Work.{Work}
use Rattle.tenant_record.specs.Replayed.{status_of}
use Rattle.job_language.specs.declared.answers.Reply.{Reply}
use Rattle.job_language.specs.declared.answers.Reply.TheVariants as reply
use Rattle.job_language.specs.declared.errors.Error.TheVariants.{UnknownJob}
use Rattle.std.specs.Option.{option_map_or}

-- what is found of a job among these
abbrev found_in : ℕ → List (ℕ × Status) → Option Status
found_in j outcomes = option_map (λ (o : ℕ × Status). o.1) (find (λ (o : ℕ × Status). o.0 == j) outcomes)

abbrev found : State → ℕ → List ℕ → Option Status
found s j numbers = found_in j (filter_map (outcome_in s) numbers)

-- the first number is another one's
found_other : (s : State) (j k : ℕ) (numbers : List ℕ) (o : Option Status) → status_of s k ≡ o → (k == j) ≡ false → found s j (k ∷ numbers) ≡ found s j numbers
found_other s j k numbers None is other = rw is refl
found_other s j k numbers (Some status) is other = rw (is, other) refl

found_after : (s : State) (j k n : ℕ) → j < k → found s j (range_with_len k n) ≡ None
found_after s j k zero after = refl
found_after s j k (suc n) after =
    let other : (k == j) ≡ false = grind (arith, after) in
    found_other s j k (range_with_len (k + 1) n) (status_of s k) refl other ∙ found_after s j (k + 1) n (omega (arith, after))

found_here : (s : State) (j n : ℕ) (o : Option Status) → status_of s j ≡ o → found s j (range_with_len j (suc n)) ≡ status_of s j
found_here s j n None is = rw is (found_after s j (j + 1) n (omega arith))
found_here s j n (Some status) is = let same : (j == j) ≡ true = grind arith in rw (is, same) refl

found_at : (s : State) (j k n : ℕ) → k ≤ j → j < k + n → found s j (range_with_len k n) ≡ status_of s j
found_at s j k zero from to = absurd (omega (arith, from, to))
found_at s j k (suc n) from to = elim (cases_eq k j) [
  | inl same ↦ rw same (found_here s j n (status_of s j) refl)
  | inr other ↦
      let differs : (k == j) ≡ false = grind (arith, other) in
      found_other s j k (range_with_len (k + 1) n) (status_of s k) refl differs ∙ found_at s j (k + 1) n (omega (arith, from, other)) (omega (arith, to))
]

no_status : (s : State) (j : ℕ) → known_job s j ≡ None → status_of s j ≡ None
no_status s j none = rw none refl

found_past : (s : State) (j k n : ℕ) → k + n ≤ j → found s j (range_with_len k n) ≡ None
found_past s j k zero past = refl
found_past s j k (suc n) past =
    let other : (k == j) ≡ false = grind (arith, past) in
    found_other s j k (range_with_len (k + 1) n) (status_of s k) refl other ∙ found_past s j (k + 1) n (omega (arith, past))

-- what a look among all of them finds
finds_status : (s : State) (j : ℕ) → found s j (range_with_len 1 (length s.jobs)) ≡ status_of s j
finds_status s zero = found_after s 0 1 (length s.jobs) (omega arith) ∙ sym (no_status s 0 refl)
finds_status s (suc n) = elim (cases_lt (length s.jobs) (suc n)) [
  | inl past ↦ found_past s (suc n) 1 (length s.jobs) (omega (arith, past)) ∙ sym (no_status s (suc n) (unknown_past s (suc n) past))
  | inr within ↦ found_at s (suc n) 1 (length s.jobs) (omega arith) (omega (arith, within))
]

found_first : (j : ℕ) (o : JobOutcome) (os : List JobOutcome) (b : Bool) → (o.job == j) ≡ b → option_map (λ (x : JobOutcome). x.status) (find (is_of j) os) ≡ found_in j (map outcome_seen os) →
    option_map (λ (x : JobOutcome). x.status) (find (is_of j) (o ∷ os)) ≡ found_in j (map outcome_seen (o ∷ os))
found_first j o os true is same = rw is refl
found_first j o os false is same = rw is same

found_seen : (j : ℕ) (os : List JobOutcome) → option_map (λ (o : JobOutcome). o.status) (find (is_of j) os) ≡ found_in j (map outcome_seen os)
found_seen j [] = refl
found_seen j (o ∷ os) = found_first j o os (o.job == j) refl (found_seen j os)

-- A look in the table of jobs finds the status of each.
pub looks_up : (s : State) (j : ℕ) (os : List JobOutcome) → map outcome_seen os ≡ job_table s → option_map (λ (o : JobOutcome). o.status) (find (is_of j) os) ≡ status_of s j
looks_up s j os table = found_seen j os ∙ ap (found_in j) (table ∙ table_by_number s) ∙ finds_status s j

-- A poll is answered with it.
polled_by : (s : State) (j : ℕ) (o : Option Work) →
    (option_map_or {U = Reply × State} (λ w. (reply.Job j (status s.rows j w), entry s)) o (reply.Refused UnknownJob, entry s)).0 ≡
    option_map_or (λ told. reply.Job j told) (option_map (status s.rows j) o) (reply.Refused UnknownJob)
polled_by s j None = refl
polled_by s j (Some w) = refl

polls : (s : State) (j : ℕ) → polled s j ≡ option_map_or (λ told. reply.Job j told) (status_of s j) (reply.Refused UnknownJob)
polls s j = polled_by s j (known_job s j)

pub polled_some : (s : State) (j : ℕ) (status : Status) → status_of s j ≡ Some status → polled s j ≡ reply.Job j status
polled_some s j status is = polls s j ∙ rw is refl

pub polled_none : (s : State) (j : ℕ) → status_of s j ≡ None → polled s j ≡ reply.Refused UnknownJob
polled_none s j is = polls s j ∙ rw is refl
