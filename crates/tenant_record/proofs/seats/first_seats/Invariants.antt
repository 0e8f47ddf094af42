use Rattle.std.proofs.Common.{◌≡◌}
use Rattle.tenant_record.specs.SeatData.{first_seats}
use Rattle.tenant_record.proofs.seats.first_seats.Given as goal

abbrev pub invariant-loop-number : goal.invariant-loop-number
invariant-loop-number l = l.seats.items ≡ first_seats l.tenant l.limit l.number
