use Rattle.std.proofs.Common.{sym, ap, ◌∙◌, arith}
use Rattle.std.specs.Option.{option_copied}
use Rattle.std.proofs.lemmas.List.{nil_from_length}
use Rattle.nest_stack.specs.Nest.{task_height}
use Rattle.nest_stack.specs.Chain.{rows_of}
use Rattle.nest_stack.proofs.Walks.{lower, ends, has-row, length-whole, task-region, task-other}
use Rattle.nest_stack.proofs.nests.highest_task.Goals as goal

pub overflow_sub-stack : goal.overflow_sub-stack
overflow_sub-stack c = (has-row c.args.nodes.now c.loop-node.stack c.in-Some.node.now c.loop-node.invariant.whole (sym c.topmost.ensures ∙ ap option_copied c.in-Some.is)).some

pub loop-node-smaller : goal.loop-node-smaller
loop-node-smaller c =
    let r = has-row c.args.nodes.now c.loop-node.stack c.in-Some.node.now c.loop-node.invariant.whole (sym c.topmost.ensures ∙ ap option_copied c.in-Some.is) in
    omega (arith, r.some)

pub loop-node-preserved : goal.loop-node-preserved
loop-node-preserved c =
    let nodes = c.args.nodes.now in
    let s = c.loop-node.stack in
    let node = c.in-Some.node.now in
    let r = has-row nodes s node c.loop-node.invariant.whole (sym c.topmost.ensures ∙ ap option_copied c.in-Some.is) in
    record { whole = r.whole; same = sym (ap task_height r.rows ∙ task-region (rows_of nodes (lower s node)) node.nested c.if-not-node.false) ∙ c.loop-node.invariant.same }

pub returns-then-not-node : goal.returns-then-not-node
returns-then-not-node c =
    let nodes = c.args.nodes.now in
    let s = c.loop-node.stack in
    let node = c.in-Some.node.now in
    let r = has-row nodes s node c.loop-node.invariant.whole (sym c.topmost.ensures ∙ ap option_copied c.in-Some.is) in
    sym r.long ∙ sym (ap task_height r.rows ∙ task-other (rows_of nodes (lower s node)) node.nested c.if-not-node.true) ∙ c.loop-node.invariant.same

pub returns-in_default : goal.returns-in_default
returns-in_default c =
    let nodes = c.args.nodes.now in
    let s = c.loop-node.stack in
    let k = c.loop-node.invariant in
    let end = ends nodes s k.whole (sym c.topmost.ensures ∙ ap option_copied c.in_default.is) in
    end ∙ sym (ap task_height (nil_from_length (rows_of nodes s) (length-whole nodes s k.whole ∙ end))) ∙ k.same
