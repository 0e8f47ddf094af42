use Rattle.std.proofs.Common.{◌≡◌}
use Rattle.tenant_record.specs.Places.{first_places}
use Rattle.tenant_record.proofs.places.first_places.Given as goal

abbrev pub invariant-loop-slot : goal.invariant-loop-slot
invariant-loop-slot l = l.home.items ≡ first_places l.tenant l.limit l.slot
