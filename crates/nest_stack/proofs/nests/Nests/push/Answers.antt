use Rattle.std.proofs.Common.{arith}
use Rattle.nest_stack.proofs.Pushed.{has-room, read-low, push-held, push-seen}
use Rattle.nest_stack.proofs.nests.Nests.push.Goals as goal

pub insert_reserved-top-requires : goal.insert_reserved-top-requires
insert_reserved-top-requires c =
    let i = c.self.inside in
    has-room i.nodes i.stacks.items c.args.self.now c.self.view_is c.self.invariant c.args.slot c.requires.slot c.requires.height

pub overflow_add-stack : goal.overflow_add-stack
overflow_add-stack c =
    let i = c.self.inside in
    let low = read-low i.nodes i.stacks.items c.args.self.now c.self.view_is c.self.invariant c.args.slot c.requires.slot c.requires.height c.index-stack.result.now c.index-stack.ensures in
    omega (arith, low)

pub invariant_of-self : goal.invariant_of-self
invariant_of-self c =
    let i = c.self.inside in
    let r = c.insert_reserved-top in
    push-held i.nodes i.stacks.items c.args.self.now c.self.view_is c.self.invariant c.args.slot c.requires.slot c.requires.height c.index-stack.result.now c.index-stack.ensures _ r.result
    r.ensures.was_vacant r.new.self r.ensures.updates r.ensures.len r.ensures.capacity

pub returns : goal.returns
returns c =
    let i = c.self.inside in
    let r = c.insert_reserved-top in
    push-seen i.nodes i.stacks.items c.args.self.now c.self.view_is c.self.invariant c.args.slot c.requires.slot c.requires.height c.index-stack.result.now c.index-stack.ensures _ r.result
    r.ensures.was_vacant r.new.self r.ensures.updates r.ensures.len r.ensures.capacity
