use Rattle.std.proofs.Common.{◌≡◌, drop}
use Rattle.source_reader.specs.Source.{nth_fn}
use Rattle.source_reader.proofs.source.nth_fn.Given as goal

abbrev pub invariant-loop-token : goal.invariant-loop-token
invariant-loop-token l = nth_fn l.behind_inline (drop l.token-index l.tokens) l.all l.number l.end ≡ nth_fn l.fn.behind_inline l.tokens l.all l.fn.number l.end
