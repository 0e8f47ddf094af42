-- The calls that wait, in the words of the market.
use Rattle.std.specs.Prelude.{◌≤◌, List, Option, Some, None}
use Rattle.circular_buffer.specs.Buffer.{Buffer}
use Rattle.job_language.specs.declared.tenants.Level.{Level}
use Rattle.job_language.specs.declared.tenants.Level.TheVariants.{High, Normal, Low}
use Rattle.market_config.specs.declared.calls.Call.{Call}
use Rattle.world_model.specs.declared.calls.SlotState.{SlotState}
use Rattle.world_model.specs.declared.calls.WorkerState.{WorkerState}
use Rattle.world_model.specs.Market.{Market}
use Rattle.world_model.specs.Orderly.{room, IsOrderly, IsCounted}
use Rattle.market.specs.declared.waiting.WaitingCalls.{WaitingCalls}

-- the ring of a level
abbrev pub ring_at : WaitingCalls → Level → Buffer Call
ring_at w High = w.high
ring_at w Normal = w.normal
ring_at w Low = w.low

abbrev pub market_of : List Level → List (List SlotState) → WaitingCalls → List WorkerState → Market
market_of levels slots w workers = record { levels = levels; slots = slots; high = w.high.items; normal = w.normal.items; low = w.low.items; workers = workers }

-- the market in which these calls wait
abbrev pub holding : Market → WaitingCalls → Market
holding m w = record m { high = w.high.items; normal = w.normal.items; low = w.low.items }

-- a call and the market that it leaves
abbrev pub leaving : Market → Option Call → Option (Call × Market)
leaving m None = None
leaving m (Some c) = Some (c, m)

-- each level has a ring in which its calls find room
abbrev pub Fits : Market → WaitingCalls → Type 0
Fits m w = (level : Level) → room m level ≤ (ring_at w level).capacity

-- What the lists of a market keep.
abbrev pub IsKept : Market → WaitingCalls → Type 0
IsKept m w = IsOrderly m × IsCounted m × Fits m w
