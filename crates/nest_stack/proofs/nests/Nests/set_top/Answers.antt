use Rattle.nest_stack.proofs.Held.{topmost, not-empty, key-is, has-key, node-is}
use Rattle.nest_stack.proofs.Written.{write-held, write-seen}
use Rattle.nest_stack.proofs.nests.Nests.set_top.Goals as goal

pub unreachable-requires : goal.unreachable-requires
unreachable-requires c =
    let i = c.self.inside in
    not-empty i.nodes i.stacks.items c.args.self.now c.self.view_is c.self.invariant c.args.slot c.index.result.now c.requires.slot c.index.ensures c.requires.height c.in_default.is

pub index_mut-requires : goal.index_mut-requires
index_mut-requires c =
    let i = c.self.inside in
    let t = topmost i.nodes i.stacks.items c.args.self.now c.self.view_is c.self.invariant c.args.slot c.requires.height in
    has-key i.nodes i.stacks.items c.args.self.now c.self.view_is c.self.invariant c.args.slot t c.in-Some.top
    (key-is i.nodes i.stacks.items c.args.self.now c.self.view_is c.self.invariant c.args.slot t c.index.result.now c.in-Some.top c.requires.slot c.index.ensures c.in-Some.is)

pub invariant_of-self : goal.invariant_of-self
invariant_of-self c =
    let i = c.self.inside in
    let t = topmost i.nodes i.stacks.items c.args.self.now c.self.view_is c.self.invariant c.args.slot c.requires.height in
    let same = key-is i.nodes i.stacks.items c.args.self.now c.self.view_is c.self.invariant c.args.slot t c.index.result.now c.in-Some.top c.requires.slot c.index.ensures c.in-Some.is in
    write-held i.nodes i.stacks.items c.args.self.now c.self.view_is c.self.invariant c.args.slot c.requires.slot t c.args.frame c.in-Some.top same c.index_mut.result.now
    (node-is i.nodes i.stacks.items c.args.self.now c.self.view_is c.self.invariant c.args.slot t c.in-Some.top c.index_mut.result.now same c.index_mut.ensures.value)

pub returns : goal.returns
returns c =
    let i = c.self.inside in
    let t = topmost i.nodes i.stacks.items c.args.self.now c.self.view_is c.self.invariant c.args.slot c.requires.height in
    let same = key-is i.nodes i.stacks.items c.args.self.now c.self.view_is c.self.invariant c.args.slot t c.index.result.now c.in-Some.top c.requires.slot c.index.ensures c.in-Some.is in
    write-seen i.nodes i.stacks.items c.args.self.now c.self.view_is c.self.invariant c.args.slot c.requires.slot t c.args.frame c.in-Some.top same c.index_mut.result.now
    (node-is i.nodes i.stacks.items c.args.self.now c.self.view_is c.self.invariant c.args.slot t c.in-Some.top c.index_mut.result.now same c.index_mut.ensures.value)
