-- The state of one tenant: all rows that it ever made, its jobs and its cells.
use Rattle.std.specs.Prelude.{ℕ, zero, suc, pos, false, List, [], replicate, Option, None, slice_get, slice_set, unwrap_or}
use Rattle.job_language.specs.declared.instructions.TheConstants.{GROUPS}
use Rattle.job_language.specs.declared.tenants.Tenant.{Tenant}
use Rattle.job_step.specs.Frame.{new_frame}
use Rattle.thread_cells.specs.Cells.{Table, no_cells}
use Rattle.tenant_model.specs.declared.rows.Kind.TheVariants.{Root}
use Rattle.tenant_model.specs.declared.rows.Phase.TheVariants.{Dropped}
use Rattle.tenant_model.specs.declared.rows.Mark.{Mark}
use Rattle.tenant_model.specs.declared.rows.Row.{Row}
use Rattle.tenant_model.specs.declared.works.Work.{Work}

-- Rows and jobs are numbered from 1, in the order in which they were made. Cells are listed by key and by slot.
pub record State : Type 0 where
  pub config : Tenant
  pub rows : List Row
  pub jobs : List Work
  pub cells : Table
  pub entries : ℕ
  pub epoch : ℕ

abbrev pub no_marks : List Mark
no_marks = replicate GROUPS (record { rows = 0; cancelled = false })

-- a tenant that has done nothing yet
abbrev pub empty : Tenant → State
empty c = record { config = c; rows = []; jobs = []; cells = no_cells; entries = 0; epoch = 0 }

-- the item of a number, counted from 1
abbrev pub at_number : {A : Type 0} → List A → ℕ → Option A
at_number xs zero = None
at_number xs (suc n) = slice_get xs n

-- the list with another item at a number
abbrev pub with_at_number : {A : Type 0} → List A → ℕ → A → List A
with_at_number xs zero x = xs
with_at_number xs (suc n) x = slice_set xs n x

-- the row of a number; if there is none, a row that does nothing
abbrev pub row : List Row → ℕ → Row
row rows n = unwrap_or (at_number rows n) (record { kind = Root; job = 0; made_on = None; frame = new_frame 0 (pos 0) (pos 0); phase = Dropped; marks = no_marks })

-- the job of a number; if there is none, a job without a program
abbrev pub job : List Work → ℕ → Work
job jobs n = unwrap_or (at_number jobs n) (record { program = []; fuel = 0; root = 0; cancelled = false; fault = None; retired = false })
