use Rattle.std.proofs.Common.{◌≡◌, drop}
use Rattle.std.specs.List.{list_any}
use Rattle.std.specs.Str.{bytes_eq}
use Rattle.job_language.specs.Configuration.{names_of}
use Rattle.job_language.proofs.configs.is_named.Given as goal

abbrev pub invariant-loop-tenant : goal.invariant-loop-tenant
invariant-loop-tenant l = list_any (bytes_eq l.name) (names_of (drop l.tenant-index l.tenants)) ≡ list_any (bytes_eq l.name) (names_of l.tenants)
