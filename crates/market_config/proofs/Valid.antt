-- The market's part of a configuration.
use Rattle.std.proofs.Common.{◌≡◌, ◌<◌, List, [], length, map, arith}
use Rattle.std.proofs.lemmas.List.{get_or-map, length-map}
use Rattle.job_language.specs.declared.tenants.Isolation.TheVariants.{Exact}
use Rattle.job_language.specs.declared.tenants.Level.TheVariants.{Normal}
use Rattle.job_language.specs.declared.tenants.Tenant.{Tenant}
use Rattle.job_language.specs.Configuration.{Configuration, IsValidConfig}
use Rattle.market_config.specs.declared.config.MarketTenant.{MarketTenant}
use Rattle.market_config.specs.Config.{IsMarketConfig}
use Rattle.market_config.specs.Told.{market_tenant}

nobody : Tenant
nobody = record { name = []; priority = Normal; isolation = Exact; slots = 0; reserved = 0; rows = 0; steps = 0 }

-- That of valid tenants is valid.
pub told_valid : (c : Configuration) (told : List MarketTenant) → IsValidConfig c → told ≡ map market_tenant c.tenants → IsMarketConfig told
told_valid c told valid same =
    let long : length (map market_tenant c.tenants) ≡ length c.tenants = length-map c.tenants market_tenant in
    rw same (
      omega (arith, long, valid.most_tenants),
      λ i d within.
          let there : i < length c.tenants = omega (arith, within, long) in
          let t = valid.each i nobody there in
          rw (get_or-map market_tenant c.tenants i nobody d there) (t.most_slots, t.reserved),
    )
