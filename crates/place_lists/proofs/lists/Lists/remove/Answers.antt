use Rattle.place_lists.proofs.Calls.{remove-next, remove-previous, remove-before, remove-after, remove-kept, remove-removed, remove-others}
use Rattle.place_lists.proofs.lists.Lists.remove.Goals as goal

pub leave-requires-clause-next : goal.leave-requires-clause-next
leave-requires-clause-next c = remove-next c.self.inside.links c.args.self.now c.args.list c.args.place c.self.view_is c.self.invariant c.requires

pub leave-requires-clause-previous : goal.leave-requires-clause-previous
leave-requires-clause-previous c = remove-previous c.self.inside.links c.args.self.now c.args.list c.args.place c.self.view_is c.self.invariant c.requires

pub leave-requires-clause-before : goal.leave-requires-clause-before
leave-requires-clause-before c = remove-before c.self.inside.links c.args.self.now c.args.list c.args.place c.self.view_is c.self.invariant c.requires

pub leave-requires-clause-after : goal.leave-requires-clause-after
leave-requires-clause-after c = remove-after c.self.inside.links c.args.self.now c.args.list c.args.place c.self.view_is c.self.invariant c.requires

pub invariant_of-self : goal.invariant_of-self
invariant_of-self c = remove-kept c.self.inside.links c.args.self.now c.args.list c.args.place c.self.view_is c.self.invariant c.requires c.leave.new.self c.leave.ensures

pub returns-clause-removed : goal.returns-clause-removed
returns-clause-removed c = remove-removed c.self.inside.links c.args.self.now c.args.list c.args.place c.self.view_is c.self.invariant c.requires c.leave.new.self c.leave.ensures

pub returns-clause-others : goal.returns-clause-others
returns-clause-others c = remove-others c.self.inside.links c.args.self.now c.args.list c.args.place c.self.view_is c.self.invariant c.requires c.leave.new.self c.leave.ensures
