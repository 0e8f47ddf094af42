use Rattle.std.proofs.Common.{◌≡◌, ◌++◌, length, map}
use Rattle.source_tokens.specs.Givens.{view_given, given_from, tokens_with}
use Rattle.source_tokens.proofs.givens.tokens_with.Given as goal

abbrev pub invariant-loop-left : goal.invariant-loop-left
invariant-loop-left l = l.out.items ++ given_from l.text (map view_given l.givens) l.left ≡ tokens_with (map view_given l.givens) l.text

abbrev pub decreases-loop-left : goal.decreases-loop-left
decreases-loop-left l = length l.left
