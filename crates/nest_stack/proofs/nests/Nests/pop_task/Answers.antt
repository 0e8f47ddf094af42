use Rattle.std.proofs.Common.{◌≤◌, length, arith}
use Rattle.nest_stack.specs.Nest.{stack}
use Rattle.nest_stack.proofs.Walks.{task-within, left-all, left-more, one-fewer}
use Rattle.nest_stack.proofs.nests.Nests.pop_task.Goals as goal

pub loop-self-init : goal.loop-self-init
loop-self-init c =
    let rows = stack c.args.self.now c.args.slot in
    record {
      there = c.requires;
      left = left-all c.args.self.now c.args.slot;
      kept = omega (arith, c.saturating_sub-kept.ensures, c.task_height.ensures, task-within rows);
      most = omega arith;
    }

pub loop-self-preserved : goal.loop-self-preserved
loop-self-preserved c =
    let first = c.args.self.now in
    let now = c.loop-self.self in
    let k = c.loop-self.invariant in
    let some : 1 ≤ length (stack now c.args.slot) = omega (arith, c.loop-self-test.true, c.height.ensures.value) in
    let fewer = one-fewer first now c.pop.new.self c.args.slot k.there k.left k.most some c.pop.ensures.rest in
    record {
      there = k.there;
      left = left-more first now c.pop.new.self c.args.slot k.there k.left k.most some c.pop.ensures.rest;
      kept = omega (arith, fewer, c.loop-self-test.true, c.height.ensures.value);
      most = omega (arith, fewer, k.most);
    }
