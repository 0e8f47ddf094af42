use Rattle.std.proofs.Common.{◌≡◌, map, take}
use Rattle.market_config.specs.Told.{market_tenant}
use Rattle.market_config.proofs.telling.market_config.Given as goal

abbrev pub invariant-loop-tenant : goal.invariant-loop-tenant
invariant-loop-tenant l = l.told.items ≡ map market_tenant (take l.tenant-index l.tenants)
