use Rattle.std.proofs.Common.{◌≡◌, Some, sym, ap, ◌∙◌}
use Rattle.world_model.specs.declared.calls.SlotState.TheVariants.{Home}
use Rattle.world_model.specs.declared.calls.WorkerState.TheVariants as worker
use Rattle.world_model.specs.Market.{Market, worker_at}
use Rattle.market.specs.Waiting.{market_of}
use Rattle.market.proofs.Keeping.{left_kept, both_set, in_there, left_home}
use Rattle.market.proofs.state.MarketState.left.Goals as goal

pub invariant_of-self : goal.invariant_of-self
invariant_of-self c =
    let m = market_of c.self.inside.levels.items c.self.inside.slots.items c.self.inside.waiting c.self.inside.workers.items in
    let call = c.in-Some-In.call in
    let at : worker_at m c.args.worker ≡ Some (worker.In call) =
    ap (λ (n : Market). worker_at n c.args.worker) c.self.view_is ∙ sym c.worker.ensures ∙ c.in-Some-In.is ∙ ap Some c.in-Some-In.field-0-is in
    let there = in_there m c.args.worker call c.self.invariant.0 at in
    let set = both_set c.self.inside.levels.items c.self.inside.slots.items c.self.inside.waiting c.self.inside.workers.items c.args.worker call Home worker.Free c.index_mut.result.now c.set.new.self
    c.index_mut.ensures.value there.0 c.set.ensures in
    left_kept m _ c.self.inside.waiting c.args.worker (set ∙ left_home m c.args.worker call at) c.self.invariant
