use Rattle.host_records.specs.Journals.{AreNext}
use Rattle.host_records.proofs.journals.Written.copy_more.Given as goal

abbrev pub invariant-loop-slice : goal.invariant-loop-slice
invariant-loop-slice g l = AreNext l.door.tenant l.fn.self l.self
