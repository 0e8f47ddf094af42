-- The market in which nothing was done yet.
use Rattle.std.specs.Prelude.{ℕ, ◌-◌, List, [], ◌++◌, map, replicate}
use Rattle.market_config.specs.declared.config.MarketTenant.{MarketTenant}
use Rattle.world_model.specs.declared.calls.SlotState.{SlotState}
use Rattle.world_model.specs.declared.calls.SlotState.TheVariants as slot
use Rattle.world_model.specs.declared.calls.WorkerState.TheVariants as worker
use Rattle.world_model.specs.Market.{Market}

-- a tenant's slots: the reserved ones, and then those for workers, which are at home
abbrev pub first_slots : MarketTenant → List SlotState
first_slots t = replicate t.reserved slot.Reserved ++ replicate (t.slots - t.reserved) slot.Home

-- no call waits, and each worker is free
abbrev pub first_market : List MarketTenant → (workers : ℕ) → Market
first_market config workers = record {
  levels = map (λ (t : MarketTenant). t.level) config;
  slots = map first_slots config;
  high = [];
  normal = [];
  low = [];
  workers = replicate workers worker.Free;
}
