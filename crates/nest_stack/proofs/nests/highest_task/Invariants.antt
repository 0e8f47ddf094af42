use Rattle.std.proofs.Common.{◌≡◌}
use Rattle.nest_stack.specs.Nest.{task_height}
use Rattle.nest_stack.specs.Chain.{IsWhole, rows_of}
use Rattle.nest_stack.proofs.nests.highest_task.Given as goal

-- What was left out of the stack are regions.
abbrev pub invariant-loop-node : goal.invariant-loop-node
invariant-loop-node l = record {
  whole : IsWhole l.nodes l.stack;
  same : task_height (rows_of l.nodes l.stack) ≡ task_height (rows_of l.fn.nodes l.fn.stack);
}

abbrev pub decreases-loop-node : goal.decreases-loop-node
decreases-loop-node l = l.stack.height
