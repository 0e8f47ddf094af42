use Rattle.std.proofs.Common.{◌≡◌, ◌-◌, ◌==◌, length}
use Rattle.std.specs.Prelude.{find}
use Rattle.std.specs.List.{range_with_len}
use Rattle.nest_stack.specs.Nest.{stack}
use Rattle.arena_rows.specs.HeldReads.{least_empty}
use Rattle.arena_rows.proofs.parts.Parts.free_slot.Given as goal

abbrev pub invariant-loop-slot : goal.invariant-loop-slot
invariant-loop-slot l = find (λ slot. length (stack l.self.nests slot) == 0) (range_with_len l.slot (l.self.config.reserved - l.slot)) ≡ least_empty l.self
