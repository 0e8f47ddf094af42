use Rattle.std.proofs.Common.{◌≡◌, length, map}
use Rattle.source_tokens.specs.Givens.{view_given, if_other, given_to}
use Rattle.source_tokens.proofs.givens.given_to.Given as goal

abbrev pub invariant-loop-left : goal.invariant-loop-left
invariant-loop-left l = if_other (given_to l.name (map view_given l.left)) l.number ≡ given_to l.name (map view_given l.givens)

abbrev pub decreases-loop-left : goal.decreases-loop-left
decreases-loop-left l = length l.left
