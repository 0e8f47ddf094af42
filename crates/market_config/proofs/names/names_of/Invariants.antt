use Rattle.std.proofs.Common.{◌≡◌, take}
use Rattle.job_language.specs.Configuration.{names_of}
use Rattle.market_config.proofs.names.names_of.Given as goal

abbrev pub invariant-loop-tenant : goal.invariant-loop-tenant
invariant-loop-tenant l = l.names.items ≡ names_of (take l.tenant-index l.tenants)
