use Rattle.arena_core.specs.Stands.{StandsFor}
use Rattle.arena_core.proofs.Standing.{keeps_regions}
use Rattle.arena_core.proofs.arena.Arena.commit.Goals as goal

pub returns-clause-regions : goal.returns-clause-regions
returns-clause-regions c = λ s stands. keeps_regions c.args.self.now s c.args.slot stands
