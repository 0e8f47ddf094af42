use Rattle.benchmarks.proofs.Released.{not_parent-reset, released}
use Rattle.benchmarks.proofs.leaves.contexts.BoundContextsRounds.round.Goals as goal

pub release-requires-clause-ends : goal.release-requires-clause-ends
release-requires-clause-ends c d bound =
    let before = c.self.inside.contexts in
    let context = c.bind-context.result in
    absurd (not_parent-reset before context c.self.inside.job c.self.invariant.forest c.self.invariant.job c.bind-context.ensures.fresh c.bind-context.new.contexts c.cancel-is_first.new.contexts
    c.reset.new.contexts c.bind-context.ensures.bound c.bind-context.ensures.held c.cancel-is_first.ensures.asked c.cancel-is_first.ensures.keeps c.reset.ensures.taken_back d bound)

pub invariant_of-self : goal.invariant_of-self
invariant_of-self c =
    let before = c.self.inside.contexts in
    let context = c.bind-context.result in
    rw (released before context c.self.inside.job c.self.invariant.forest c.self.invariant.job c.bind-context.ensures.fresh c.bind-context.new.contexts c.cancel-is_first.new.contexts
    c.reset.new.contexts c.bind-context.ensures.bound c.bind-context.ensures.held c.cancel-is_first.ensures.asked c.cancel-is_first.ensures.keeps c.reset.ensures.taken_back c.release.new.contexts
    c.release.ensures) c.self.invariant

pub returns : goal.returns
returns c =
    let before = c.self.inside.contexts in
    let context = c.bind-context.result in
    rw (released before context c.self.inside.job c.self.invariant.forest c.self.invariant.job c.bind-context.ensures.fresh c.bind-context.new.contexts c.cancel-is_first.new.contexts
    c.reset.new.contexts c.bind-context.ensures.bound c.bind-context.ensures.held c.cancel-is_first.ensures.asked c.cancel-is_first.ensures.keeps c.reset.ensures.taken_back c.release.new.contexts
    c.release.ensures) c.self.view_is
