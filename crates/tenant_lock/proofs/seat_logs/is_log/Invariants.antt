use Rattle.std.proofs.Common.{◌≡◌, length}
use Rattle.std.specs.Prelude.{◌↔◌}
use Rattle.tenant_lock.specs.SeatLogs.{asks_on}
use Rattle.tenant_lock.proofs.seat_logs.is_log.Given as goal

abbrev pub invariant-loop-named : goal.invariant-loop-named
invariant-loop-named l = (l.fn.log ≡ asks_on l.fn.number l.fn.askers l.fn.history) ↔ (l.left ≡ asks_on l.fn.number l.named l.entries)

abbrev pub decreases-loop-named : goal.decreases-loop-named
decreases-loop-named l = length l.entries
