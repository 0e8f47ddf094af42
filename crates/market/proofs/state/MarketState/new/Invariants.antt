use Rattle.std.proofs.Common.{◌≡◌, map, take}
use Rattle.market_config.specs.declared.config.MarketTenant.{MarketTenant}
use Rattle.market.specs.First.{first_slots}
use Rattle.market.proofs.state.MarketState.new.Given as goal

abbrev pub invariant-loop-tenant : goal.invariant-loop-tenant
invariant-loop-tenant l = (l.levels.items ≡ map (λ (t : MarketTenant). t.level) (take l.tenant-index l.tenants)) × (l.slots.items ≡ map first_slots (take l.tenant-index l.tenants))
