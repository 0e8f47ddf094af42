use Rattle.std.proofs.Common.{ℕ, Option, length}
use Rattle.tenant_lock.specs.Closing.{IsSeatFault}
use Rattle.tenant_lock.proofs.closing.first_seat_fault.Given as goal

abbrev pub invariant-loop-left : goal.invariant-loop-left
invariant-loop-left l = (r : Option ℕ) → IsSeatFault l.cell l.left r → IsSeatFault l.fn.cell l.fn.seats r

abbrev pub decreases-loop-left : goal.decreases-loop-left
decreases-loop-left l = length l.left
