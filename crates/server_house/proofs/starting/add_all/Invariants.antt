use Rattle.std.proofs.Common.{◌≡◌, ◌++◌}
use Rattle.server_house.proofs.starting.add_all.Given as goal

abbrev pub invariant-loop-seat : goal.invariant-loop-seat
invariant-loop-seat l = l.all.items ≡ l.initial.all.items ++ l.yielded
