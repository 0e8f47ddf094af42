-- What a session of a host is answered, and by whom.
use Rattle.std.specs.Prelude.{ℕ, ◌≡◌, ◌⊎◌, Bool, true, false, List, Option, Some, None, if◌then◌else◌}
use Rattle.job_language.specs.declared.answers.Reply.{Reply}
use Rattle.job_language.specs.declared.answers.Reply.TheVariants.{Refused, Pending}
use Rattle.job_language.specs.declared.errors.Error.TheVariants.{Busy, HistoryFull, NoMemory, NoTenant}
use Rattle.job_language.specs.declared.requests.Request.{Request}
use Rattle.job_language.specs.declared.requests.Request.TheVariants.{Poll, Collect, Take, Cancel, Release, Submit, Execute, Retire}
use Rattle.nested_wait.specs.declared.attending.Attended.{Attended}
use Rattle.nested_wait.specs.declared.attending.Attended.TheVariants.{Full}
use Rattle.host_terms.specs.Bookings.{TermSeen, IsAt, IsOf}
use Rattle.host_terms.specs.Looks.{IsKeptAnswer, IsLooked}
use Rattle.server_house.specs.declared.owned.Told.{Told}
use Rattle.server_house.specs.Owned.{AsksThere}
use Rattle.server_house.specs.Posts.{ClientSeen}
use Rattle.term_life.specs.declared.spans.Span.{Span}
use Rattle.term_life.specs.Outcomes.{is_release}
use Rattle.term_life.specs.Spans.{has_job, reply_outside, request_inside}

abbrev pub brings_job : Request → Bool
brings_job (Submit job) = true
brings_job (Execute job) = true
brings_job request = false

abbrev pub is_full : Option Attended → Bool
is_full (Some Full) = true
is_full how = false

-- what is told outside of a term that has answered so
abbrev pub told_outside : Span → Told → Reply
told_outside s told = if is_full told.attended then Refused HistoryFull else reply_outside s told.reply

abbrev pub unless_pending : Reply → Reply → Reply
unless_pending Pending told = Pending
unless_pending reply told = told

-- the same, where the answer may be that an outcome has to be waited for
abbrev pub told_of : Span → Told → Reply
told_of s told = unless_pending told.reply (told_outside s told)

-- the job that a request names
abbrev pub job_named : Request → Option ℕ
job_named (Poll job) = Some job
job_named (Collect job) = Some job
job_named (Take job) = Some job
job_named (Cancel job) = Some job
job_named (Release job) = Some job
job_named request = None

-- A place in the term asked the term's tenant, and noted the request with what it was told.
pub record IsAsked (term : TermSeen) (request : Request) (told : Told) : Type 0 where
  pub before : ClientSeen
  pub at : IsAt term before
  pub after : ClientSeen
  pub asks : AsksThere before request told after

-- The tenant of that term was asked in it, and this is told of its answer outside.
pub record IsToldBy (term : TermSeen) (request : Request) (reply : Reply) : Type 0 where
  pub told : Told
  pub asked : IsAsked term request told ⊎ IsLooked term request told
  pub is : reply ≡ told_of term.span told

-- The request names a job. The tenant of that name was asked about the number that the job has in a term whose job it is.
pub record IsFromOwner (name : List ℕ) (request : Request) (reply : Reply) : Type 0 where
  pub job : ℕ
  pub named : job_named request ≡ Some job
  pub term : TermSeen
  pub of : IsOf name term
  pub owns : has_job job term.span ≡ true
  pub told : IsToldBy term (request_inside term.span request) reply

-- The tenant of that name was asked in one of its terms.
pub record IsFromTerm (name : List ℕ) (request : Request) (reply : Reply) : Type 0 where
  pub term : TermSeen
  pub of : IsOf name term
  pub told : IsToldBy term request reply

-- The request names a job. What was kept of closed terms answers it.
pub record IsFromClosed (request : Request) (reply : Reply) : Type 0 where
  pub job : ℕ
  pub named : job_named request ≡ Some job
  pub answer : IsKeptAnswer request job reply

-- how a request is refused if it can't be noted what it has the tenant forget
abbrev pub IsUnnoted : Reply → Type 0
IsUnnoted reply = (reply ≡ Refused NoMemory) ⊎ (reply ≡ Refused HistoryFull)

-- A request for which no term may serve, or whose effect is to be noted: each but those that look for a job, or cancel it.
abbrev pub MayLackTerm : Request → Type 0
MayLackTerm request = (job_named request ≡ None) ⊎ (is_release request ≡ true)

-- the host's own refusals
abbrev pub IsRefusedHere : Request → Reply → Type 0
IsRefusedHere request reply =
    (reply ≡ Refused NoMemory) ⊎ (((reply ≡ Refused HistoryFull) × MayLackTerm request) ⊎ ((reply ≡ Refused Busy) × (request ≡ Retire)))

-- how the terms that serve one after another answer a request to the tenant of that name
abbrev pub IsServed : (name : List ℕ) → Request → Reply → Type 0
IsServed name request reply = IsFromTerm name request reply ⊎ IsRefusedHere request reply

-- The request names no job. A term of the tenant of that name was asked, or it is refused.
pub record IsFromServing (name : List ℕ) (request : Request) (reply : Reply) : Type 0 where
  pub named : job_named request ≡ None
  pub served : IsServed name request reply

-- how a session of a host is answered that is bound to the tenant of that name
abbrev pub IsAnswer : (name : List ℕ) → Request → Reply → Type 0
IsAnswer name request reply = IsFromOwner name request reply ⊎ (IsFromServing name request reply ⊎ (IsFromClosed request reply ⊎ IsRefusedHere request reply))

-- how a session of a host is answered, by the name of the tenant that it is bound to, if it is
abbrev pub IsAnswered : (name : Option (List ℕ)) → Request → Reply → Type 0
IsAnswered None request reply = reply ≡ Refused NoTenant
IsAnswered (Some name) request reply = IsAnswer name request reply
