-- The market's part of a configuration.
use Rattle.job_language.specs.declared.tenants.Tenant.{Tenant}
use Rattle.market_config.specs.declared.config.MarketTenant.{MarketTenant}

-- what the market knows of a tenant
abbrev pub market_tenant : Tenant → MarketTenant
market_tenant t = record { level = t.priority; slots = t.slots; reserved = t.reserved }
