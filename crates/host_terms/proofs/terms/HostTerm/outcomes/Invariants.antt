use Rattle.std.proofs.Common.{◌≡◌, Some}
use Rattle.host_terms.specs.Bookings.{seen_of}
use Rattle.host_terms.specs.Endings.{AreOutcomes}
use Rattle.host_terms.proofs.terms.HostTerm.outcomes.Given as goal

abbrev pub invariant-loop-job : goal.invariant-loop-job
invariant-loop-job g l = ((seen_of l.fn.self).life ≡ Some l.door.life) × AreOutcomes (seen_of l.fn.self) l.last l.outcomes.items
