-- Which world a list of arenas and a market stand for.
use Rattle.std.specs.Prelude.{ℕ, ◌≡◌, ◌<◌, length, slice_index_or}
use Rattle.tenant_model.specs.State.{State}
use Rattle.world_model.specs.World.{World, state_of}
use Rattle.world_core.specs.WorldData.{WorldData}

-- Each arena stands for the state of its tenant, and the market is the world's.
pub record Represents {A : Type 0} (stands_for : A → State → Type 0) (h : WorldData A) (w : World) : Type 0 where
  pub market_is : h.market ≡ w.market
  pub long : length h.arenas ≡ length w.states
  pub each : (t : ℕ) (d : A) → t < length h.arenas → stands_for (slice_index_or h.arenas t d) (state_of w t)
