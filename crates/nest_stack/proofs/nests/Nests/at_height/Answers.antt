use Rattle.std.proofs.Common.{ap, arith}
use Rattle.nest_stack.specs.declared.stack.Stack.{Stack}
use Rattle.nest_stack.proofs.Held.{height-is, read-is}
use Rattle.nest_stack.proofs.nests.Nests.at_height.Goals as goal

pub row_at-requires-clause-to : goal.row_at-requires-clause-to
row_at-requires-clause-to c =
    let i = c.self.inside in
    let same = read-is i.nodes i.stacks.items c.args.self.now c.self.view_is c.self.invariant c.args.slot c.index.result.now c.requires.slot c.index.ensures in
    omega (arith, c.requires.to, ap (λ (s : Stack). s.height) same, height-is i.nodes i.stacks.items c.args.self.now c.self.view_is c.self.invariant c.args.slot)
