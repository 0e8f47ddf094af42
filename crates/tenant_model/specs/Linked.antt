-- Every row and job that a tenant's rows and jobs refer to exists.
use Rattle.std.specs.Prelude.{ℕ, ◌<◌, ◌≤◌, List, length, IfSome}
use Rattle.tenant_model.specs.declared.rows.Row.{Row}
use Rattle.tenant_model.specs.State.{State, row}
use Rattle.tenant_model.specs.Walks.{maker_of}

-- A maker comes before what it made.
abbrev pub MakersPrecede : List Row → Type 0
MakersPrecede rows = (n : ℕ) → 1 ≤ n → n ≤ length rows → IfSome (maker_of (row rows n).kind) (λ m. (1 ≤ m) × (m < n))

-- The job of each row exists.
abbrev pub JobsAreThere : State → Type 0
JobsAreThere s = (n : ℕ) → 1 ≤ n → n ≤ length s.rows → (1 ≤ (row s.rows n).job) × ((row s.rows n).job ≤ length s.jobs)

-- Each row and job that a state's rows and jobs name exists.
pub record IsLinked (s : State) : Type 0 where
  pub makers : MakersPrecede s.rows
  pub jobs : JobsAreThere s
  pub epoch : s.epoch ≤ s.entries
