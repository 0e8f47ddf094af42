use Rattle.std.proofs.Common.{◌≡◌, length}
use Rattle.host_program.proofs.hosting.new_places.Given as goal

abbrev pub invariant-loop-worker : goal.invariant-loop-worker
invariant-loop-worker l = length l.places.items ≡ l._worker
