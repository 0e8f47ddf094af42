use Rattle.std.proofs.Common.{None, Some, sym, ap, ◌∙◌}
use Rattle.std.specs.Option.{option_copied}
use Rattle.nest_stack.proofs.Held.{top-is}
use Rattle.nest_stack.proofs.nests.Nests.top.Goals as goal

pub returns-in_err-topmost : goal.returns-in_err-topmost
returns-in_err-topmost c =
    let i = c.self.inside in
    ap option_copied c.from_residual.ensures ∙
    top-is i.nodes i.stacks.items c.args.self.now c.self.view_is c.self.invariant c.args.slot c.index.result.now None c.requires c.index.ensures
    (sym (ap option_copied c.in_err-topmost.was) ∙ c.topmost.ensures)

pub returns : goal.returns
returns c =
    let i = c.self.inside in
    top-is i.nodes i.stacks.items c.args.self.now c.self.view_is c.self.invariant c.args.slot c.index.result.now (Some c.in_ok-topmost.field-0.now) c.requires c.index.ensures
    (sym (ap option_copied c.in_ok-topmost.was) ∙ c.topmost.ensures)
