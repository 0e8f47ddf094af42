use Rattle.std.proofs.Common.{sym, subst}
use Rattle.world_model.specs.Market.{Market}
use Rattle.world_core.specs.WorldData.{KeepsOrder}
use Rattle.world_core.proofs.Keeping.{wake_keeps}
use Rattle.world_core.proofs.steps.wake_after.Goals as goal

pub returns-then-has_unstarted-clause-keeps : goal.returns-then-has_unstarted-clause-keeps
returns-then-has_unstarted-clause-keeps g c = subst (λ (m : Market). KeepsOrder c.args.market.now m) (sym c.wake.ensures.state) (wake_keeps c.args.market.now c.args.tenant)
