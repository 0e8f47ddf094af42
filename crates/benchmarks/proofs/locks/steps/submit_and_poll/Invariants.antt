use Rattle.std.proofs.Common.{◌≡◌}
use Rattle.benchmarks.proofs.locks.steps.submit_and_poll.Given as goal

abbrev pub invariant-loop-poll : goal.invariant-loop-poll
invariant-loop-poll g l = l.seat.tenant ≡ l.door.tenant
