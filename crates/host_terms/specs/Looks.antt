-- What is told of a job without asking its term's tenant: by a look at the tenant, or of a term that is closed.
use Rattle.std.specs.Prelude.{ℕ, ◌≡◌, ◌≢◌, ◌≤◌, ◌⊎◌, Option, Some, None}
use Rattle.job_language.specs.declared.answers.Reply.{Reply}
use Rattle.job_language.specs.declared.answers.Reply.TheVariants.{Refused, Job}
use Rattle.job_language.specs.declared.answers.Status.{Status}
use Rattle.job_language.specs.declared.answers.Status.TheVariants.{Running}
use Rattle.job_language.specs.declared.errors.Error.TheVariants.{UnknownJob}
use Rattle.job_language.specs.declared.requests.Request.{Request}
use Rattle.job_language.specs.declared.requests.Request.TheVariants.{Poll, Collect}
use Rattle.job_language.specs.declared.tenants.Tenant.{Tenant}
use Rattle.host_terms.specs.Bookings.{TermSeen, seen_of}
use Rattle.host_terms.specs.declared.terms.HostTerm.{HostTerm}
use Rattle.server_house.specs.declared.owned.Told.{Told}
use Rattle.tenant_book.specs.Fronts.{FrontData}
use Rattle.tenant_lock.specs.Under.{AreCounts, IsStatus, IsTally, WasThere}
use Rattle.tenant_lock.specs.declared.counts.Counts.{Counts}
use Rattle.tenant_lock.specs.declared.counts.Tally.{Tally}
use Rattle.term_life.specs.Outcomes.{Kept, answered, status_of}

abbrev pub looked : (job : ℕ) → Option Status → Reply
looked job None = Refused UnknownJob
looked job (Some s) = Job job s

-- A look at the term's tenant was enough: it knew so much of the job, and nothing was noted.
pub record IsLooked (term : TermSeen) (request : Request) (told : Told) : Type 0 where
  pub job : ℕ
  pub status : Option Status
  pub tenant : ℕ
  pub seen : FrontData
  pub life : term.life ≡ Some seen.life
  pub now : FrontData
  pub was : WasThere tenant seen now (IsStatus job status)
  pub asks : (request ≡ Poll job) ⊎ ((request ≡ Collect job) × (status ≢ Some Running))
  pub is : told.reply ≡ looked job status
  pub attended : told.attended ≡ None

-- What was kept of closed terms answers the request about a job.
pub record IsKeptAnswer (request : Request) (job : ℕ) (reply : Reply) : Type 0 where
  pub kept : Kept
  pub is : reply ≡ answered request job (status_of job kept)

-- So many rows of the term's tenant were open at some moment.
pub record WasTallied (term : TermSeen) (tally : Tally) : Type 0 where
  pub tenant : ℕ
  pub seen : FrontData
  pub life : term.life ≡ Some seen.life
  pub now : FrontData
  pub was : WasThere tenant seen now (IsTally tally)

-- The history of the term's tenant had so many entries at some moment.
pub record WasCounted (term : TermSeen) (counts : Counts) : Type 0 where
  pub tenant : ℕ
  pub seen : FrontData
  pub life : term.life ≡ Some seen.life
  pub now : FrontData
  pub was : WasThere tenant seen now (AreCounts counts)

-- No row was open, or none that anybody can start.
abbrev pub HadNothingToDo : TermSeen → Tenant → Type 0
HadNothingToDo term config =
    (tally : Tally) × WasTallied term tally × ((tally.open_rows ≡ 0) ⊎ ((config.slots ≤ config.reserved) × (tally.open_rows ≡ tally.waiting_rows)))

-- The history was full.
abbrev pub WasFull : TermSeen → Tenant → Type 0
WasFull term config = (counts : Counts) × WasCounted term counts × (config.steps ≤ counts.entries)

-- Nothing can be done in the term any more. One without a tenant has nothing to do.
abbrev pub IsDone : TermSeen → Tenant → Type 0
IsDone term config = (term.life ≡ None) ⊎ (HadNothingToDo term config ⊎ WasFull term config)

abbrev pub IsDoneTerm : {J : Type 0} → HostTerm J → Type 0
IsDoneTerm t = IsDone (seen_of t) t.tenant
