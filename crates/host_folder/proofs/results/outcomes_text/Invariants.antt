use Rattle.std.proofs.Common.{◌≡◌, take}
use Rattle.host_folder.specs.Results.{outcome_lines}
use Rattle.host_folder.proofs.results.outcomes_text.Given as goal

abbrev pub invariant-loop-outcome : goal.invariant-loop-outcome
invariant-loop-outcome l = l.text.items ≡ outcome_lines (take l.outcome-index l.outcomes)
