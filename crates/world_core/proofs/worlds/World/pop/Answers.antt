use Rattle.std.proofs.Common.{◌≡◌, Some, sym, ap, ◌∙◌, subst}
use Rattle.world_model.specs.declared.calls.WorkerState.TheVariants.{Free}
use Rattle.world_model.specs.Market.{Market, worker_at, is_free}
use Rattle.world_core.specs.WorldData.{KeepsOrder}
use Rattle.world_core.proofs.Keeping.{held_market, pop_keeps}
use Rattle.world_core.proofs.worlds.World.pop.Goals as goal

pub invariant_of-self : goal.invariant_of-self
invariant_of-self g c =
    let m = c.self.inside.market in
    let at : worker_at m c.args.worker ≡ Some Free = sym c.worker.ensures ∙ c.in-Some-Free.is ∙ ap Some c.in-Some-Free.field-0-is in
    let keeps : KeepsOrder m c.pop.new.self = subst (λ (n : Market). KeepsOrder m n) (sym c.pop.ensures.state) (pop_keeps m c.args.worker (ap is_free at)) in
    held_market c.self.inside.arenas.items m c.pop.new.self c.self.invariant keeps
