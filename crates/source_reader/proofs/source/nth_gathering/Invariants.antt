use Rattle.std.proofs.Common.{◌≡◌, drop}
use Rattle.source_reader.specs.Source.{nth_gathering}
use Rattle.source_reader.proofs.source.nth_gathering.Given as goal

abbrev pub invariant-loop-token : goal.invariant-loop-token
invariant-loop-token l = nth_gathering (drop l.token-index l.tokens) l.number l.end ≡ nth_gathering l.tokens l.fn.number l.end
