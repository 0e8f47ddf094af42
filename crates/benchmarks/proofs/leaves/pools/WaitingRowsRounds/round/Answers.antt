use Rattle.benchmarks.proofs.Removed.{removed}
use Rattle.benchmarks.proofs.leaves.pools.WaitingRowsRounds.round.Goals as goal

pub invariant_of-self : goal.invariant_of-self
invariant_of-self c = rw (removed c.self.inside.pool c.put.new.pool c.remove-was_there.new.pool _ c.self.inside.free c.self.invariant.before c.row_of_round-row.ensures.place c.put.ensures
    c.remove-was_there.ensures) c.self.invariant

pub returns : goal.returns
returns c = rw (removed c.self.inside.pool c.put.new.pool c.remove-was_there.new.pool _ c.self.inside.free c.self.invariant.before c.row_of_round-row.ensures.place c.put.ensures
    c.remove-was_there.ensures) c.self.view_is
