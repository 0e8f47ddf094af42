use Rattle.tenant_record.specs.Closing.{AreWhole}
use Rattle.tenant_record.proofs.closing.first_slot_fault.Given as goal

abbrev pub invariant-loop-slot : goal.invariant-loop-slot
invariant-loop-slot l = AreWhole l.cell l.slot
