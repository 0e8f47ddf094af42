use Rattle.std.proofs.Common.{◌<◌, IfSome}
use Rattle.register_choice.proofs.again.cheapest.Given as goal

abbrev pub invariant-loop-v : goal.invariant-loop-v
invariant-loop-v l = IfSome l.found (λ v. v < l.function.variables)
