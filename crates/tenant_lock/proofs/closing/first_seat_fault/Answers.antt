use Rattle.std.proofs.Common.{None, arith}
use Rattle.tenant_lock.proofs.closing.first_seat_fault.Goals as goal

pub returns : goal.returns
returns c = c.loop-left.invariant None (λ k d low. absurd (omega (arith, low, c.in_default.len_below)))
