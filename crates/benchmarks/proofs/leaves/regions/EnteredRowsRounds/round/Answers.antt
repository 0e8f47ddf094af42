use Rattle.benchmarks.proofs.Exited.{exited}
use Rattle.benchmarks.proofs.leaves.regions.EnteredRowsRounds.round.Goals as goal

pub returns : goal.returns
returns c = rw (exited c.self.inside.regions c.enter.new.regions c.exit.new.regions c.self.inside.free c.row_of_round-row.result.place _ c.self.invariant.free c.row_of_round-row.ensures.place
    c.enter.ensures c.exit.ensures) c.self.view_is
