use Rattle.std.proofs.Common.{◌≡◌, ◌++◌, drop, take, map}
use Rattle.term_life.specs.Lives.{left_if}
use Rattle.term_life.proofs.terms.leave_each.Given as goal

abbrev pub invariant-loop-term : goal.invariant-loop-term
invariant-loop-term l = l.terms ≡ map (left_if l.why) (take l.term-index l.fn.terms) ++ drop l.term-index l.fn.terms
