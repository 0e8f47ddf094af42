use Rattle.std.proofs.Common.{◌≡◌}
use Rattle.host_sessions.proofs.sessions.HostDoors.ask_serving.Given as goal

abbrev pub invariant-loop-try : goal.invariant-loop-try
invariant-loop-try g l = l.request ≡ l.fn.request
