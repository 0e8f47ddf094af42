use Rattle.std.proofs.Common.{sym, ap, ◌∙◌}
use Rattle.nest_stack.specs.declared.stack.Stack.{Stack}
use Rattle.nest_stack.proofs.Held.{height-is, read-is}
use Rattle.nest_stack.proofs.nests.Nests.height.Goals as goal

pub returns-clause-value : goal.returns-clause-value
returns-clause-value c =
    let i = c.self.inside in
    ap (λ (s : Stack). s.height) (read-is i.nodes i.stacks.items c.args.self.now c.self.view_is c.self.invariant c.args.slot c.index.result.now c.requires c.index.ensures)
    ∙ sym (height-is i.nodes i.stacks.items c.args.self.now c.self.view_is c.self.invariant c.args.slot)
