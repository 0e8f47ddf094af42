-- What a world holds.
use Rattle.std.specs.Prelude.{◌≡◌, List, length}
use Rattle.world_model.specs.Market.{Market}
use Rattle.world_model.specs.Orderly.{IsOrderly}

-- an arena of each tenant, numbered from 0, and the market
pub record WorldData (A : Type 0) : Type 0 where
  pub arenas : List A
  pub market : Market

-- The market is orderly, and knows the slots of as many tenants as there are arenas.
pub record IsAligned {A : Type 0} (h : WorldData A) : Type 0 where
  pub orderly : IsOrderly h.market
  pub aligned : length h.market.slots ≡ length h.arenas

-- An orderly market stays orderly, and knows the slots of as many tenants.
pub record KeepsOrder (m n : Market) : Type 0 where
  pub orderly : IsOrderly m → IsOrderly n
  pub aligned : length n.slots ≡ length m.slots
