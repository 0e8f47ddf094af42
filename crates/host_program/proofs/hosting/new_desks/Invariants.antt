use Rattle.std.proofs.Common.{◌≡◌, length}
use Rattle.host_program.proofs.hosting.new_desks.Given as goal

abbrev pub invariant-loop-connection : goal.invariant-loop-connection
invariant-loop-connection g l = length l.desks.items ≡ l._connection
