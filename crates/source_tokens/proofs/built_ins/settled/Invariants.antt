use Rattle.std.proofs.Common.{◌≡◌, ◌++◌, length}
use Rattle.source_tokens.specs.BuiltIns.{settled_from, settled}
use Rattle.source_tokens.proofs.built_ins.settled.Given as goal

abbrev pub invariant-loop-left : goal.invariant-loop-left
invariant-loop-left l = l.out.items ++ settled_from l.all l.left ≡ settled l.all

abbrev pub decreases-loop-left : goal.decreases-loop-left
decreases-loop-left l = length l.left
