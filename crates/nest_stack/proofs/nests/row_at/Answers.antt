use Rattle.std.proofs.Common.{◌<◌, sym, ap, ◌∙◌, arith}
use Rattle.std.specs.Option.{option_copied}
use Rattle.nest_stack.specs.Nest.{at_height}
use Rattle.nest_stack.specs.Chain.{rows_of}
use Rattle.nest_stack.proofs.Walks.{lower, ends, has-row, at-below, at-top}
use Rattle.nest_stack.proofs.nests.row_at.Goals as goal

pub unreachable-requires : goal.unreachable-requires
unreachable-requires c =
    let k = c.loop-node.invariant in
    omega (arith, k.from, k.to, ends c.args.nodes.now c.loop-node.stack k.whole (sym c.topmost.ensures ∙ ap option_copied c.in_default.is))

pub returns-then-stack-height : goal.returns-then-stack-height
returns-then-stack-height c =
    let nodes = c.args.nodes.now in
    let s = c.loop-node.stack in
    let k = c.loop-node.invariant in
    let node = c.in-Some.node.now in
    let r = has-row nodes s node k.whole (sym c.topmost.ensures ∙ ap option_copied c.in-Some.is) in
    sym k.same ∙ ap (λ xs. at_height xs c.args.height) r.rows ∙ at-top (rows_of nodes (lower s node)) node.nested c.args.height (omega (arith, r.long, c.if-stack-height.true))

pub loop-node-preserved : goal.loop-node-preserved
loop-node-preserved c =
    let nodes = c.args.nodes.now in
    let s = c.loop-node.stack in
    let k = c.loop-node.invariant in
    let node = c.in-Some.node.now in
    let r = has-row nodes s node k.whole (sym c.topmost.ensures ∙ ap option_copied c.in-Some.is) in
    let less : c.args.height < s.height = omega (arith, k.to, c.if-stack-height.false) in
    record {
      whole = r.whole;
      from = k.from;
      to = omega (arith, less);
      same = sym (ap (λ xs. at_height xs c.args.height) r.rows ∙ at-below (rows_of nodes (lower s node)) node.nested c.args.height k.from (omega (arith, less, r.long))) ∙ k.same;
    }
