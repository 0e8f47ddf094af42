use Rattle.std.proofs.Common.{◌≡◌, ◌++◌, drop}
use Rattle.source_tokens.specs.Breaks.{unbroken_from, unbroken}
use Rattle.source_tokens.proofs.breaks.unbroken.Given as goal

abbrev pub invariant-loop-token : goal.invariant-loop-token
invariant-loop-token l = l.out.items ++ unbroken_from l.opened.items l.before (drop l.token-index l.tokens) ≡ unbroken l.tokens
