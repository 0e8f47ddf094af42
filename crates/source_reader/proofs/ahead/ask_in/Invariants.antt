use Rattle.std.proofs.Common.{◌≡◌, length}
use Rattle.source_reader.specs.Names.{names_of}
use Rattle.source_reader.specs.Ahead.{ask_in}
use Rattle.source_reader.proofs.ahead.ask_in.Given as goal

abbrev pub invariant-loop-left : goal.invariant-loop-left
invariant-loop-left l = ask_in (names_of l.fn.names) l.fn.alone l.left ≡ ask_in (names_of l.fn.names) l.fn.alone l.fn.tokens

abbrev pub decreases-loop-left : goal.decreases-loop-left
decreases-loop-left l = length l.left
