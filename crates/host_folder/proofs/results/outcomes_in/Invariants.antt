use Rattle.std.proofs.Common.{map}
use Rattle.host_folder.specs.Results.{AreOutcomesOf}
use Rattle.host_folder.proofs.results.outcomes_in.Given as goal

abbrev pub invariant-loop-line : goal.invariant-loop-line
invariant-loop-line l =
    (goal.iterator-loop-line).can_next l.line-iterator ×
    (goal.iterator-loop-line).is_finite l.line-iterator ×
    AreOutcomesOf (map (λ x. x.now) l.yielded) l.outcomes.items
