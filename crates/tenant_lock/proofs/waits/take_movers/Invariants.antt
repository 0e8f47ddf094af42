use Rattle.tenant_lock.proofs.Telling.{ToldBelow}
use Rattle.tenant_lock.proofs.waits.take_movers.Given as goal

abbrev pub invariant-loop-slot : goal.invariant-loop-slot
invariant-loop-slot l = ToldBelow l.cell l.is_over l.fn.noted.is_in l.named.is_in l.noted.is_in l.slot
