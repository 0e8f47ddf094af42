use Rattle.job_finish.specs.Finished.{room_left}
use Rattle.job_finish.proofs.Going.{IsGoing}
use Rattle.job_finish.proofs.finishing.advance_slot.Given as goal

abbrev pub invariant-moves : goal.invariant-moves
invariant-moves l = IsGoing l.fn.replay l.replay l.has_moved

abbrev pub decreases-moves : goal.decreases-moves
decreases-moves l = room_left l.replay
