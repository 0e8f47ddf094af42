use Rattle.std.proofs.Common.{length}
use Rattle.nest_stack.specs.Nest.{stack}
use Rattle.arena_rows.proofs.parts.Parts.+fault_rows.Given as goal

abbrev pub decreases-fault_rows : goal.decreases-fault_rows
decreases-fault_rows l = length (stack l.self.now.nests l.slot)
