use Rattle.std.proofs.Common.{◌≡◌, ◌++◌, drop, take, map}
use Rattle.term_life.specs.Outcomes.{forgetting}
use Rattle.term_life.proofs.outcomes.forget_in_each.Given as goal

abbrev pub invariant-loop-ended : goal.invariant-loop-ended
invariant-loop-ended l = l.terms ≡ map (forgetting l.job) (take l.ended-index l.fn.terms) ++ drop l.ended-index l.fn.terms
