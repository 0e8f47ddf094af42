use Rattle.std.proofs.Common.{◌≡◌, ◌++◌, drop, take, map}
use Rattle.term_life.specs.Lives.{closing_if}
use Rattle.term_life.proofs.terms.close_each.Given as goal

abbrev pub invariant-loop-term : goal.invariant-loop-term
invariant-loop-term l = l.terms ≡ map (closing_if l.number) (take l.term-index l.fn.terms) ++ drop l.term-index l.fn.terms
