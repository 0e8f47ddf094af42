-- The configuration that a JSON value spells.
use Rattle.std.specs.Prelude.{ℕ, List, [], ◌∷◌, Option, Some, None, if◌then◌else◌, codes}
use Rattle.serde_json.specs.Data.{Data}
use Rattle.job_language.specs.declared.configs.TheConstants.{MAX_WORKERS}
use Rattle.job_language.specs.declared.tenants.Tenant.{Tenant}
use Rattle.job_language.specs.Configuration.{Configuration, is_valid_config}
use Rattle.job_json.specs.Json.{◌>>=◌, get_as, has_members, items_of, number_in}
use Rattle.job_json.specs.TenantOf.{tenant_of}

-- each is a tenant
abbrev pub tenants_of : List Data → Option (List Tenant)
tenants_of [] = Some []
tenants_of (d ∷ ds) = do
  tenant ← tenant_of d
  tenants ← tenants_of ds
  Some (tenant ∷ tenants)

-- the number of workers, and what stands in the tenants' place
abbrev pub config_members : Data → Option (ℕ × List Data)
config_members d = do
  workers ← get_as (codes "workers") (number_in 1 MAX_WORKERS) d
  tenants ← get_as (codes "tenants") items_of d
  Some (workers, tenants)

-- an object of these two members
abbrev pub config_outline : Data → Option (ℕ × List Data)
config_outline d = if has_members 2 d then config_members d else None

abbrev pub config_in : ℕ × List Data → Option Configuration
config_in o = do
  tenants ← tenants_of o.1
  if is_valid_config (record { tenants = tenants; workers = o.0 }) then Some (record { tenants = tenants; workers = o.0 }) else None

abbrev pub config_of : Data → Option Configuration
config_of d = config_outline d >>= config_in
