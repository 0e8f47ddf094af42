use Rattle.std.proofs.Common.{sym, ◌∙◌, subst}
use Rattle.world_model.specs.Market.{Market}
use Rattle.world_core.specs.WorldData.{KeepsOrder}
use Rattle.world_core.proofs.Keeping.{keeps_same, keeps_both, left_keeps}
use Rattle.world_core.proofs.steps.advance.Goals.{then-matches, else-matches}
use Rattle.world_core.proofs.steps.advance.Goals as goal

pub returns-clause-keeps : goal.returns-clause-keeps
returns-clause-keeps g c =
    let m = c.args.market.now in
    let left : KeepsOrder m c.if-matches.market = elim c.if-matches.branch [
      | then-matches w ↦ subst (λ (n : Market). KeepsOrder m n) (sym (w.market-is ∙ w.left.ensures)) (left_keeps m c.args.worker)
      | else-matches w ↦ subst (λ (n : Market). KeepsOrder m n) (sym w.market-is) (keeps_same m)
    ] in
    keeps_both m c.if-matches.market c.wake_after.new.market left c.wake_after.ensures.keeps
