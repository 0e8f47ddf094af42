use Rattle.std.proofs.Common.{◌≡◌, drop}
use Rattle.source_tokens.specs.Givens.{has_param}
use Rattle.source_tokens.proofs.givens.has_param.Given as goal

abbrev pub invariant-loop-place : goal.invariant-loop-place
invariant-loop-place l = has_param l.text l.name (drop l.place l.tokens) ≡ has_param l.text l.name l.tokens
