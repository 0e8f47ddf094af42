use Rattle.session_law.specs.Tenants.{Tenants, IsNoneBefore}
use Rattle.session_law.specs.Doors.{AreAt}
use Rattle.session_law.proofs.doors.ArenaDoorsDoors.find.Given as goal

abbrev pub invariant-loop-number : goal.invariant-loop-number
invariant-loop-number l = (ts : Tenants) → AreAt l.fn.self ts → IsNoneBefore ts.states l.fn.name l.number
