-- The tenant that a JSON value spells.
use Rattle.std.specs.Prelude.{ℕ, List, Option, Some, None, if◌then◌else◌, is_some, codes}
use Rattle.std.specs.Option.{option_map_or}
use Rattle.serde_json.specs.Data.{Data}
use Rattle.serde_json.specs.Find.{get, as_str}
use Rattle.job_language.specs.declared.tenants.Isolation.{Isolation}
use Rattle.job_language.specs.declared.tenants.Isolation.TheVariants.{Exact}
use Rattle.job_language.specs.declared.tenants.Level.{Level}
use Rattle.job_language.specs.declared.tenants.Tenant.{Tenant}
use Rattle.job_language.specs.declared.tenants.TheConstants.{MAX_SLOTS, MAX_ROWS, MAX_STEPS}
use Rattle.job_json.specs.Json.{◌>>=◌, get_as, has_members, number_in}
use Rattle.job_language.specs.Name.{is_name}
use Rattle.job_language.specs.TenantWords.{level_named, isolation_named}

abbrev pub name_of : Data → Option (List ℕ)
name_of d = as_str d >>= λ text. if is_name text then Some text else None

abbrev pub level_of : Data → Option Level
level_of d = as_str d >>= level_named

abbrev pub isolation_of : Data → Option Isolation
isolation_of d = as_str d >>= isolation_named

-- A tenant without the member `isolation` is in mode exact.
abbrev pub tenant_of_members : Data → Option Tenant
tenant_of_members d = do
  slots ← get_as (codes "slots") (number_in 1 MAX_SLOTS) d
  name ← get_as (codes "name") name_of d
  priority ← get_as (codes "priority") level_of d
  isolation ← option_map_or isolation_of (get (codes "isolation") d) (Some Exact)
  reserved ← get_as (codes "reserved") (number_in 0 slots) d
  rows ← get_as (codes "rows") (number_in 1 MAX_ROWS) d
  steps ← get_as (codes "steps") (number_in 1 MAX_STEPS) d
  Some (record { name = name; priority = priority; isolation = isolation; slots = slots; reserved = reserved; rows = rows; steps = steps })

-- an object of these six members, or of seven with `isolation`
abbrev pub tenant_of : Data → Option Tenant
tenant_of d = if has_members (if is_some (get (codes "isolation") d) then 7 else 6) d then tenant_of_members d else None
