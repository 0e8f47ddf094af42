-- What the jobs of a term have come to that ends.
use Rattle.std.specs.Prelude.{ℕ, ◌≡◌, ◌⊎◌, List, [], ◌∷◌, ◌++◌, Option, Some, None, nat_le, if◌then◌else◌}
use Rattle.job_language.specs.declared.answers.Status.{Status}
use Rattle.job_language.specs.declared.tenants.Tenant.{Tenant}
use Rattle.host_terms.specs.Bookings.{TermSeen}
use Rattle.tenant_book.specs.Fronts.{FrontData}
use Rattle.tenant_lock.specs.Under.{IsNextJob, IsStatus, WasThere}
use Rattle.term_life.specs.Spans.{outside}
use Rattle.term_life.specs.declared.outcomes.Outcome.{Outcome}

-- At some moment that was the first job of the term after the other one, by their numbers there, that is neither retired nor released; None: there was none.
pub record WasNext (term : TermSeen) (after : ℕ) (next : Option ℕ) : Type 0 where
  pub tenant : ℕ
  pub seen : FrontData
  pub life : term.life ≡ Some seen.life
  pub now : FrontData
  pub was : WasThere tenant seen now (IsNextJob after next)

-- At some moment the job, by its number in the term, had come so far; None: it was retired or released.
pub record WasSo (term : TermSeen) (job : ℕ) (status : Option Status) : Type 0 where
  pub tenant : ℕ
  pub seen : FrontData
  pub life : term.life ≡ Some seen.life
  pub now : FrontData
  pub was : WasThere tenant seen now (IsStatus job status)

-- The outcome has the job's number outside, and says how far it was.
pub record WasOutcome (term : TermSeen) (job : ℕ) (outcome : Outcome) : Type 0 where
  pub number : outcome.job ≡ outside term.span job
  pub so : WasSo term job (Some outcome.status)

-- The outcomes are those of the term's jobs up to the last one, in their order: but for jobs that were released meanwhile.
pub data AreOutcomes (term : TermSeen) : (last : ℕ) → List Outcome → Type 0 where
  First : AreOutcomes term 0 []
  More : {last job : ℕ} {os : List Outcome} {o : Outcome} → AreOutcomes term last os → WasNext term last (Some job) → WasOutcome term job o → AreOutcomes term job (os ++ o ∷ [])
  Gone : {last job : ℕ} {os : List Outcome} → AreOutcomes term last os → WasNext term last (Some job) → WasSo term job None → AreOutcomes term job os

-- There was no job after them.
pub record AreAllOutcomes (term : TermSeen) (outcomes : List Outcome) : Type 0 where
  pub last : ℕ
  pub are : AreOutcomes term last outcomes
  pub ends : WasNext term last None

-- the same of a term that may be one without a tenant
abbrev pub AreComplete : TermSeen → List Outcome → Type 0
AreComplete term outcomes = ((term.life ≡ None) × (outcomes ≡ [])) ⊎ AreAllOutcomes term outcomes

-- what is kept of a term's outcomes: nothing, if the jobs of all terms before a later one are retired
abbrev pub kept_of : (number retired : ℕ) → List Outcome → List Outcome
kept_of number retired outcomes = if nat_le retired number then outcomes else []

-- a term that ends, with what its tenant was given and what its jobs have come to
pub record EndingSeen : Type 0 where
  pub term : TermSeen
  pub config : Tenant
  pub outcomes : List Outcome

abbrev pub IsEnding : EndingSeen → Type 0
IsEnding e = AreComplete e.term e.outcomes
