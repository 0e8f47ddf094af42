use Rattle.std.proofs.Common.{◌≡◌, length}
use Rattle.source_tokens.specs.Numbers.{with_digits}
use Rattle.source_tokens.proofs.numbers.with_digits.Given as goal

abbrev pub invariant-loop-first : goal.invariant-loop-first
invariant-loop-first l = with_digits l.base l.number l.left ≡ with_digits l.base l.fn.number l.fn.text

abbrev pub decreases-loop-first : goal.decreases-loop-first
decreases-loop-first l = length l.left
