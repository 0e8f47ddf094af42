use Rattle.place_lists.proofs.Calls.{push-last, push-kept, push-pushed, push-others}
use Rattle.place_lists.proofs.lists.Lists.push.Goals as goal

pub join-requires-clause-last : goal.join-requires-clause-last
join-requires-clause-last c = push-last c.self.inside.links c.args.self.now c.args.list c.args.place c.self.view_is c.self.invariant c.requires.list c.requires.place c.requires.free

pub invariant_of-self : goal.invariant_of-self
invariant_of-self c = push-kept c.self.inside.links c.args.self.now c.args.list c.args.place c.self.view_is c.self.invariant c.requires.list c.requires.place c.requires.free c.join.new.self
    c.join.ensures

pub returns-clause-pushed : goal.returns-clause-pushed
returns-clause-pushed c = push-pushed c.self.inside.links c.args.self.now c.args.list c.args.place c.self.view_is c.self.invariant c.requires.list c.requires.place c.requires.free c.join.new.self
    c.join.ensures

pub returns-clause-others : goal.returns-clause-others
returns-clause-others c = push-others c.self.inside.links c.args.self.now c.args.list c.args.place c.self.view_is c.self.invariant c.requires.list c.requires.place c.requires.free c.join.new.self
    c.join.ensures
