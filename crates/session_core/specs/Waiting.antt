-- Jobs whose outcome a session waits for.
use Rattle.std.specs.Prelude.{ℕ, zero, suc, ◌≡◌, ◌≢◌, ◌≤◌, ◌⊎◌, Bool, true, false, Option, Some, None}
use Rattle.job_language.specs.declared.answers.Reply.{Reply}
use Rattle.job_language.specs.declared.answers.Reply.TheVariants as reply
use Rattle.job_language.specs.declared.errors.Error.TheVariants.{HistoryFull}
use Rattle.job_language.specs.declared.jobs.Job.{Job}
use Rattle.job_language.specs.declared.requests.Request.{Request}
use Rattle.job_language.specs.declared.requests.Request.TheVariants.{Collect, Take, Execute}
use Rattle.nested_wait.specs.declared.attending.Attended.{Attended}
use Rattle.nested_wait.specs.declared.attending.Attended.TheVariants.{Below, Full, Stopped}
use Rattle.session_core.specs.declared.doors.Answered.{Answered}
use Rattle.session_core.specs.Calls.{Asks, Waits, AttendsTo}

-- a request that has this reply
abbrev pub Gives : {D : Type 0} → Asks D → Request → Reply → D → D → Type 0
Gives {D = D} asks request r d e = (placed : Bool) × asks d request (record { reply = r; placed = placed }) e

-- the request that collects a job, and releases it if it is to
abbrev pub collecting : (releases : Bool) → (job : ℕ) → Request
collecting false job = Collect job
collecting true job = Take job

-- `times` times a collect was pending, and then a pause said to go on
abbrev pub Pends : {D : Type 0} → Asks D → Waits D → (releases : Bool) → (job times : ℕ) → D → D → Type 0
Pends {D = D} asks waits releases job zero d e = e ≡ d
Pends {D = D} asks waits releases job (suc n) d e = (f : D) × (g : D) × (Pends asks waits releases job n d f × Gives asks (collecting releases job) reply.Pending f g × waits g job false e)

-- how often a collect is tried
abbrev pub most_tries : ℕ
most_tries = 18446744073709551615

-- collects until one is not pending, a pause says to stop, or all tries are made
abbrev pub Collects : {D : Type 0} → Asks D → Waits D → (releases : Bool) → (job : ℕ) → Option Reply → D → D → Type 0
Collects {D = D} asks waits releases job (Some r) d e = (times : ℕ) × (f : D) × (Pends asks waits releases job times d f × Gives asks (collecting releases job) r f e × (r ≢ reply.Pending))
Collects {D = D} asks waits releases job None d e =
    ((times : ℕ) × (f : D) × (g : D) × (Pends asks waits releases job times d f × Gives asks (collecting releases job) reply.Pending f g × waits g job true e))
    ⊎ ((times : ℕ) × ((most_tries ≤ times) × Pends asks waits releases job times d e))

-- After the slot was attended, the job is collected. A full history is error 8.
abbrev pub AfterAttending : {D : Type 0} → Asks D → Waits D → (job : ℕ) → Attended → Option Reply → D → D → Type 0
AfterAttending {D = D} asks waits job Below r d e = Collects asks waits false job r d e
AfterAttending {D = D} asks waits job Full r d e = (r ≡ Some (reply.Refused HistoryFull)) × (e ≡ d)
AfterAttending {D = D} asks waits job Stopped r d e = (r ≡ None) × (e ≡ d)

-- a job that was made: its slot is attended first if it was placed on one
abbrev pub Follows : {D : Type 0} → Asks D → Waits D → AttendsTo D → (job : ℕ) → (placed : Bool) → Option Reply → D → D → Type 0
Follows {D = D} asks waits attends job true r d e = (how : Attended) × (f : D) × (attends how d f × AfterAttending asks waits job how r f e)
Follows {D = D} asks waits attends job false r d e = Collects asks waits false job r d e

-- A job that was not made is answered at once.
abbrev pub AfterExecute : {D : Type 0} → Asks D → Waits D → AttendsTo D → (made : Reply) → (placed : Bool) → Option Reply → D → D → Type 0
AfterExecute {D = D} asks waits attends (reply.Made job) placed r d e = Follows asks waits attends job placed r d e
AfterExecute {D = D} asks waits attends (reply.Placed job slot) placed r d e = Follows asks waits attends job placed r d e
AfterExecute {D = D} asks waits attends made placed r d e = (r ≡ Some made) × (e ≡ d)

abbrev pub Executes : {D : Type 0} → Asks D → Waits D → AttendsTo D → Job → Option Reply → D → D → Type 0
Executes {D = D} asks waits attends job r d e = (made : Answered) × (f : D) × (asks d (Execute job) made f × AfterExecute asks waits attends made.reply made.placed r f e)
