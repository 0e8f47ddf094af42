use Rattle.std.proofs.Common.{◌≡◌, map, length}
use Rattle.source_reader.specs.Gathering.{gatherings_from}
use Rattle.source_reader.specs.Names.{names_of}
use Rattle.source_reader.specs.Trees.{function_tree_of}
use Rattle.source_reader.proofs.gathering.gatherings_from.Given as goal

abbrev pub invariant-loop-left : goal.invariant-loop-left
invariant-loop-left l =
    gatherings_from (names_of l.fn.names) (map function_tree_of l.functions.items) l.left
    ≡ gatherings_from (names_of l.fn.names) (map function_tree_of l.fn.before.items) l.fn.tokens

abbrev pub decreases-loop-left : goal.decreases-loop-left
decreases-loop-left l = length l.left
