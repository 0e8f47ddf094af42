use Rattle.std.proofs.Common.{◌≡◌, ◌≤◌}
use Rattle.nest_stack.specs.Nest.{at_height}
use Rattle.nest_stack.specs.Chain.{IsWhole, rows_of}
use Rattle.nest_stack.proofs.nests.row_at.Given as goal

-- The row is in what is left of the stack.
abbrev pub invariant-loop-node : goal.invariant-loop-node
invariant-loop-node l = record {
  whole : IsWhole l.nodes l.stack;
  from : 1 ≤ l.height;
  to : l.height ≤ l.stack.height;
  same : at_height (rows_of l.nodes l.stack) l.height ≡ at_height (rows_of l.fn.nodes l.fn.stack) l.fn.height;
}

abbrev pub decreases-loop-node : goal.decreases-loop-node
decreases-loop-node l = l.stack.height
