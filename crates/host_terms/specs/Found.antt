-- Where a job is to be asked for.
use Rattle.std.specs.Prelude.{ℕ, ◌≡◌, ◌⊎◌, List, true}
use Rattle.job_language.specs.declared.answers.Reply.TheVariants.{Refused}
use Rattle.job_language.specs.declared.errors.Error.TheVariants.{NoMemory}
use Rattle.job_language.specs.declared.requests.Request.{Request}
use Rattle.host_terms.specs.Looks.{IsKeptAnswer}
use Rattle.host_terms.specs.Bookings.{IsOf}
use Rattle.host_terms.specs.declared.tenancies.Found.{Found}
use Rattle.host_terms.specs.declared.tenancies.Found.TheVariants.{Live, Answered, Leaving}
use Rattle.term_life.specs.Outcomes.{is_release}
use Rattle.term_life.specs.Spans.{has_job}

-- A place in the term, of the tenant of that name, whose job it is; or the reply, which what was kept of closed terms gives, or for lack of memory.
-- A request is noted before it is answered only if it releases the job.
abbrev pub IsFound : {J : Type 0} → (name : List ℕ) → (job : ℕ) → Request → Found J → Type 0
IsFound name job request (Live booking) = IsOf name booking.term × (has_job job booking.term.span ≡ true)
IsFound name job request (Answered reply) = IsKeptAnswer request job reply ⊎ (reply ≡ Refused NoMemory)
IsFound name job request Leaving = is_release request ≡ true
