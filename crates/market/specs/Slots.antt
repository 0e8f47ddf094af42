-- The slots of one tenant.
use Rattle.std.specs.Prelude.{ℕ, List, Option, Some, None, slice_set}
use Rattle.world_model.specs.declared.calls.SlotState.{SlotState}
use Rattle.world_model.specs.declared.calls.SlotState.TheVariants.{Due}

-- the slots when one of them, if there is one, has become due
abbrev pub woken : List SlotState → Option ℕ → List SlotState
woken slots None = slots
woken slots (Some s) = slice_set slots s Due
