-- What a thread has seen of a tenant's one history.
use Rattle.std.specs.Prelude.{ℕ, ◌≡◌, ◌<◌, ◌+◌, List, [], ◌∷◌, ◌++◌, length, All, Contains, slice_index_or}
use mathlib.Core.List.{IsPrefix}
use Rattle.logbook.specs.Pages.{Book}
use Rattle.job_language.specs.declared.tenants.Isolation.TheVariants as isolation
use Rattle.job_language.specs.declared.tenants.Level.TheVariants as level
use Rattle.job_language.specs.declared.tenants.Tenant.{Tenant}
use Rattle.job_language.specs.declared.steps.Entry.{Entry}
use Rattle.tenant_record.specs.Cell.{CellData, IsRight}

-- The number of a life, its book, what its tenant is given, and the moments of its one history that were seen, which begin
-- it: what lay under the tenant's lock at the start, and then after each call that may change it.
pub record FrontData : Type 0 where
  pub life : ℕ
  pub book : Book
  pub config : Tenant
  pub log : List CellData

-- The cell is the moment that was seen last.
abbrev pub IsLast : List CellData → CellData → Type 0
IsLast log c = (before : List CellData) × (log ≡ before ++ c ∷ [])

-- Each call keeps what was recorded before it, and records behind it.
pub record GoesOn (c d : CellData) : Type 0 where
  pub history : IsPrefix c.history d.history
  pub tenant : d.tenant ≡ c.tenant
  pub config : d.config ≡ c.config

-- The cell goes on from the moment that was seen last.
abbrev pub GoesFrom : List CellData → CellData → Type 0
GoesFrom log d = (c : CellData) → IsLast log c → GoesOn c d

-- A right cell of a tenant that is given that: its history is what the plain evaluator gives on its steps.
pub record IsMoment (config : Tenant) (c : CellData) : Type 0 where
  pub config_is : c.config ≡ config
  pub right : IsRight c

-- The moments of one life: each is right, and goes on from the one before.
pub record AreMoments (config : Tenant) (log : List CellData) : Type 0 where
  pub each : All (IsMoment config) log
  pub go_on : (k : ℕ) (z : CellData) → k + 1 < length log → GoesOn (slice_index_or log k z) (slice_index_or log (k + 1) z)

-- The holder of a front had seen a beginning of the history that ends with the cell c, which a call made d: now it has been
-- seen up to d.
pub record Follows (seen now : FrontData) (c d : CellData) : Type 0 where
  pub logged : List CellData
  pub goes_on : IsPrefix seen.log (logged ++ c ∷ [])
  pub ends : now ≡ record seen { log = logged ++ c ∷ d ∷ [] }
  pub goes : GoesOn c d
  pub given : d.config ≡ seen.config

-- The holder of a front had seen a beginning of the history that ends with the cell c: now it has been seen up to c.
pub record Finds (seen now : FrontData) (c : CellData) : Type 0 where
  pub logged : List CellData
  pub goes_on : IsPrefix seen.log (logged ++ c ∷ [])
  pub ends : now ≡ record seen { log = logged ++ c ∷ [] }
  pub given : c.config ≡ seen.config

-- Each moment that was seen has a history that begins that one.
abbrev pub BeginsIn : FrontData → List Entry → Type 0
BeginsIn f history = (c : CellData) → Contains f.log c → IsPrefix c.history history

-- what no tenant is given
abbrev pub no_config : Tenant
no_config = record { name = []; priority = level.Normal; isolation = isolation.Exact; slots = 0; reserved = 0; rows = 0; steps = 0 }

-- nothing was seen
abbrev pub no_front : FrontData
no_front = record { life = 0; book = record { number = 0; log_name = 0; cells_name = 0 }; config = no_config; log = [] }
