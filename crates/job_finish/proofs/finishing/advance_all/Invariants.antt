use Rattle.job_finish.proofs.Going.{IsGoingAll}
use Rattle.job_finish.proofs.finishing.advance_all.Given as goal

abbrev pub invariant-loop-slot : goal.invariant-loop-slot
invariant-loop-slot l = IsGoingAll l.fn.replay l.replay l.has_moved l.slot
