use Rattle.std.proofs.Common.{◌≡◌, ◌++◌, map, length, false}
use Rattle.source_reader.specs.Headers.{headers_behind}
use Rattle.source_reader.specs.Trees.{header_tree_of}
use Rattle.source_reader.proofs.headers.declared_in.Given as goal

abbrev pub invariant-loop-left : goal.invariant-loop-left
invariant-loop-left l = map header_tree_of l.headers.items ++ headers_behind l.behind_inline l.left ≡ headers_behind false l.fn.tokens

abbrev pub decreases-loop-left : goal.decreases-loop-left
decreases-loop-left l = length l.left
