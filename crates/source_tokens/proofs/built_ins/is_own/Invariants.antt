use Rattle.std.proofs.Common.{◌≡◌, drop}
use Rattle.source_tokens.specs.BuiltIns.{is_own}
use Rattle.source_tokens.proofs.built_ins.is_own.Given as goal

abbrev pub invariant-loop-place : goal.invariant-loop-place
invariant-loop-place l = is_own l.name (drop l.place l.tokens) ≡ is_own l.name l.tokens
