-- A dump as it is held.
use Rattle.std.specs.Prelude.{List, Bool}
use Rattle.job_language.specs.declared.steps.Entry.{Entry}
use Rattle.job_language.specs.declared.tenants.Tenant.{Tenant}

-- a tenant, the entries before the first that is foreign, and whether there is one
pub record DumpHeld : Type 0 where
  pub config : Tenant
  pub entries : List Entry
  pub has_foreign : Bool
