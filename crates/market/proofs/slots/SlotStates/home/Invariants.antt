use Rattle.std.proofs.Common.{◌≡◌, drop}
use Rattle.world_model.specs.Market.{lowest_home}
use Rattle.market.proofs.slots.SlotStates.home.Given as goal

abbrev pub invariant-loop-slot : goal.invariant-loop-slot
invariant-loop-slot l = lowest_home 0 l.self-inside.states.items ≡ lowest_home l.slot (drop l.slot l.self-inside.states.items)
