-- What a tenant's steps never undo: where a row came from, that it is closed, what a job is, and its outcome.
use Rattle.std.specs.Prelude.{ℕ, ◌≡◌, ◌≤◌, true, false, Some, length}
use Rattle.job_language.specs.declared.errors.JobFault.{JobFault}
use Rattle.tenant_model.specs.declared.rows.Row.{Row}
use Rattle.tenant_model.specs.declared.works.Work.{Work}
use Rattle.tenant_model.specs.State.{State, row, job}
use Rattle.tenant_model.specs.Walks.{is_open}
use Rattle.tenant_model.specs.Asks.{has_outcome, status}

-- Row q is row r after some steps: a closed row has not changed.
pub record IsRowLater (r q : Row) : Type 0 where
  pub kind : q.kind ≡ r.kind
  pub job : q.job ≡ r.job
  pub made_on : q.made_on ≡ r.made_on
  pub closed : is_open r.phase ≡ false → q ≡ r

-- Job v is job w after some steps: a job stays cancelled, faulted or retired.
pub record IsWorkLater (w v : Work) : Type 0 where
  pub program : v.program ≡ w.program
  pub root : v.root ≡ w.root
  pub cancelled : w.cancelled ≡ true → v.cancelled ≡ true
  pub fault : (f : JobFault) → w.fault ≡ Some f → v.fault ≡ Some f
  pub retired : w.retired ≡ true → v.retired ≡ true

-- no row of the job is open
abbrev pub HasEnded : State → ℕ → Type 0
HasEnded s j = (n : ℕ) → (row s.rows n).job ≡ j → is_open (row s.rows n).phase ≡ false

-- A job that has ended stays so, and nothing cancels it.
pub record StaysEnded (s t : State) (j : ℕ) : Type 0 where
  pub ended : HasEnded t j
  pub cancelled : (job t.jobs j).cancelled ≡ (job s.jobs j).cancelled
  pub fault : (job t.jobs j).fault ≡ (job s.jobs j).fault

-- State t is state s after some steps.
pub record IsLater (s t : State) : Type 0 where
  pub config : t.config ≡ s.config
  pub more_rows : length s.rows ≤ length t.rows
  pub more_jobs : length s.jobs ≤ length t.jobs
  pub rows : (n : ℕ) → n ≤ length s.rows → IsRowLater (row s.rows n) (row t.rows n)
  pub jobs : (j : ℕ) → j ≤ length s.jobs → IsWorkLater (job s.jobs j) (job t.jobs j)
  pub ended : (j : ℕ) → j ≤ length s.jobs → HasEnded s j → StaysEnded s t j

-- A job that has an outcome keeps it.
abbrev pub OutcomesStay : State → State → Type 0
OutcomesStay s t = (j : ℕ) → 1 ≤ j → j ≤ length s.jobs → has_outcome s.rows j ≡ true → status t.rows j (job t.jobs j) ≡ status s.rows j (job s.jobs j)
