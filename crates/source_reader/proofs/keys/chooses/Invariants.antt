use Rattle.std.proofs.Common.{◌≡◌, drop}
use Rattle.source_reader.specs.Keys.{chooses}
use Rattle.source_reader.proofs.keys.chooses.Given as goal

abbrev pub invariant-loop-place : goal.invariant-loop-place
invariant-loop-place l = chooses l.key (drop l.place l.tokens) ≡ chooses l.key l.tokens
