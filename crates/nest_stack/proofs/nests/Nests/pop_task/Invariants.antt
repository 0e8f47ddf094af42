use Rattle.std.proofs.Common.{◌≡◌, ◌≤◌, ◌<◌, length, take}
use Rattle.nest_stack.specs.Nest.{stack, with_stack}
use Rattle.nest_stack.proofs.nests.Nests.pop_task.Given as goal

-- Some of the lowest rows are left, and those that are kept are among them.
abbrev pub invariant-loop-self : goal.invariant-loop-self
invariant-loop-self l = record {
  there : l.slot < length l.fn.self;
  left : l.self ≡ with_stack l.fn.self l.slot (take (length (stack l.self l.slot)) (stack l.fn.self l.slot));
  kept : l.kept ≤ length (stack l.self l.slot);
  most : length (stack l.self l.slot) ≤ length (stack l.fn.self l.slot);
}

abbrev pub decreases-loop-self : goal.decreases-loop-self
decreases-loop-self l = length (stack l.self l.slot)
