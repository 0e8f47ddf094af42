use Rattle.std.proofs.Common.{◌≡◌, ◌++◌, map, length}
use Rattle.source_reader.specs.Headers.{gathering_headers}
use Rattle.source_reader.specs.Trees.{header_tree_of}
use Rattle.source_reader.proofs.headers.with_gatherings.Given as goal

abbrev pub invariant-loop-left : goal.invariant-loop-left
invariant-loop-left l = map header_tree_of l.headers.items ++ gathering_headers l.left ≡ map header_tree_of l.fn.headers.items ++ gathering_headers l.fn.tokens

abbrev pub decreases-loop-left : goal.decreases-loop-left
decreases-loop-left l = length l.left
