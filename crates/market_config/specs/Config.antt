-- What the market knows of the tenants, and how many calls each level holds.
use Rattle.std.specs.Prelude.{ℕ, Bool, true, false, ◌-◌, ◌≤◌, List, length, max, if◌then◌else◌, slice_index_or}
use Rattle.std.specs.List.{sum_by, All}
use Rattle.job_language.specs.declared.configs.TheConstants.{MAX_TENANTS}
use Rattle.job_language.specs.declared.tenants.TheConstants.{MAX_SLOTS}
use Rattle.job_language.specs.declared.tenants.Level.{Level}
use Rattle.job_language.specs.declared.tenants.Level.TheVariants.{High, Normal, Low}
use Rattle.market_config.specs.declared.config.MarketTenant.{MarketTenant}

abbrev pub is_level : Level → Level → Bool
is_level High High = true
is_level Normal Normal = true
is_level Low Low = true
is_level k l = false

-- as many tenants and slots as a configuration may have
abbrev pub IsMarketConfig : List MarketTenant → Type 0
IsMarketConfig config = (length config ≤ MAX_TENANTS) × All (λ t. (t.slots ≤ MAX_SLOTS) × (t.reserved ≤ t.slots)) config

-- a tenant by its number; one that is not there has no slots
abbrev pub tenant_in : List MarketTenant → ℕ → MarketTenant
tenant_in config t = slice_index_or config t (record { level = Normal; slots = 0; reserved = 0 })

-- the level of a tenant's calls
abbrev pub level_in : List MarketTenant → ℕ → Level
level_in config t = (tenant_in config t).level

-- the slots for workers of the tenants of a level
abbrev pub slots_at : Level → List MarketTenant → ℕ
slots_at level config = sum_by (λ t. if is_level t.level level then t.slots - t.reserved else 0) config

-- how many calls a level holds: as many as its tenants have slots for workers, and at least one
abbrev pub room_at : List MarketTenant → Level → ℕ
room_at config level = max 1 (slots_at level config)
