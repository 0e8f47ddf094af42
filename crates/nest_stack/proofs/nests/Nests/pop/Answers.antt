use Rattle.nest_stack.proofs.Held.{topmost, not-empty, key-is, has-key, pop-held, pop-seen, pop-value}
use Rattle.nest_stack.proofs.nests.Nests.pop.Goals as goal

pub unreachable-requires : goal.unreachable-requires
unreachable-requires c =
    let i = c.self.inside in
    not-empty i.nodes i.stacks.items c.args.self.now c.self.view_is c.self.invariant c.args.slot c.index-stack.result.now c.requires.slot c.index-stack.ensures c.requires.height c.in_default.is

pub remove-node-requires : goal.remove-node-requires
remove-node-requires c =
    let i = c.self.inside in
    let t = topmost i.nodes i.stacks.items c.args.self.now c.self.view_is c.self.invariant c.args.slot c.requires.height in
    has-key i.nodes i.stacks.items c.args.self.now c.self.view_is c.self.invariant c.args.slot t c.in-Some.top
    (key-is i.nodes i.stacks.items c.args.self.now c.self.view_is c.self.invariant c.args.slot t c.index-stack.result.now c.in-Some.top c.requires.slot c.index-stack.ensures c.in-Some.is)

pub invariant_of-self : goal.invariant_of-self
invariant_of-self c =
    let i = c.self.inside in
    let t = topmost i.nodes i.stacks.items c.args.self.now c.self.view_is c.self.invariant c.args.slot c.requires.height in
    let r = c.remove-node in
    pop-held i.nodes i.stacks.items c.args.self.now c.self.view_is c.self.invariant c.args.slot t c.index-stack.result.now c.requires.slot c.index-stack.ensures c.in-Some.top c.in-Some.is r.result
    r.ensures.value r.new.self r.ensures.updates r.ensures.len r.ensures.capacity

pub returns-clause-value : goal.returns-clause-value
returns-clause-value c =
    let i = c.self.inside in
    let t = topmost i.nodes i.stacks.items c.args.self.now c.self.view_is c.self.invariant c.args.slot c.requires.height in
    let r = c.remove-node in
    pop-value i.nodes i.stacks.items c.args.self.now c.self.view_is c.self.invariant c.args.slot t c.index-stack.result.now c.requires.slot c.index-stack.ensures c.in-Some.top c.in-Some.is r.result
    r.ensures.value r.new.self r.ensures.updates r.ensures.len r.ensures.capacity

pub returns-clause-rest : goal.returns-clause-rest
returns-clause-rest c =
    let i = c.self.inside in
    let t = topmost i.nodes i.stacks.items c.args.self.now c.self.view_is c.self.invariant c.args.slot c.requires.height in
    let r = c.remove-node in
    pop-seen i.nodes i.stacks.items c.args.self.now c.self.view_is c.self.invariant c.args.slot t c.index-stack.result.now c.requires.slot c.index-stack.ensures c.in-Some.top c.in-Some.is r.result
    r.ensures.value r.new.self r.ensures.updates r.ensures.len r.ensures.capacity
