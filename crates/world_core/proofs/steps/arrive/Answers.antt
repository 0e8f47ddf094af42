use Rattle.std.proofs.Common.{sym, subst}
use Rattle.world_model.specs.Market.{Market}
use Rattle.world_core.specs.WorldData.{KeepsOrder}
use Rattle.world_core.proofs.Keeping.{keeps_both, came_keeps}
use Rattle.world_core.proofs.steps.arrive.Goals as goal

pub returns-clause-keeps : goal.returns-clause-keeps
returns-clause-keeps g c =
    let m = c.args.market.now in
    let came : KeepsOrder m c.came.new.self = subst (λ (n : Market). KeepsOrder m n) (sym c.came.ensures) (came_keeps m c.args.worker c.match-matches.matches) in
    keeps_both m c.came.new.self c.wake_after.new.market came c.wake_after.ensures.keeps
