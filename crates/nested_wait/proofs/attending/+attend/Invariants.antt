use Rattle.std.proofs.Common.{◌-◌}
use Rattle.nested_wait.specs.Turns.{Turn, TurnFrom}
use Rattle.nested_wait.specs.Runs.{Reaches}
use Rattle.nested_wait.proofs.attending.+attend.Given as goal

-- each call deeper has a higher floor, and no stack is higher than 128
abbrev pub decreases-attend : goal.decreases-attend
decreases-attend g l = 129 - l.floor

abbrev pub invariant-loop-turn : goal.invariant-loop-turn
invariant-loop-turn g l = Reaches (TurnFrom (Turn g.D.Door.views g.D.Door.commits g.D.Door.advances) g.D.Door.heights l.floor) g.D.Door.pauses l._turn l.fn.door l.door
