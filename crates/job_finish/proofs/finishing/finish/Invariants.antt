use Rattle.job_finish.specs.Finished.{GoesOn, room_left}
use Rattle.job_finish.proofs.finishing.finish.Given as goal

abbrev pub invariant-rounds : goal.invariant-rounds
invariant-rounds l = GoesOn l.fn.replay l.replay

abbrev pub decreases-rounds : goal.decreases-rounds
decreases-rounds l = room_left l.replay
