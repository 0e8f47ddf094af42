use Rattle.std.proofs.Common.{◌≡◌, ◌≤◌, ◌*◌, take}
use Rattle.market_config.specs.Config.{slots_at}
use Rattle.market_config.proofs.config.MarketConfig.room.Given as goal

abbrev pub invariant-loop-tenant : goal.invariant-loop-tenant
invariant-loop-tenant l = (l.slots ≡ slots_at l.level (take l.tenant-index l.tenant-items)) × (l.slots ≤ 16 * l.tenant-index)
