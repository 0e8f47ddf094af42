use Rattle.std.proofs.Common.{◌≡◌, Some, sym, ap, ◌∙◌}
use Rattle.world_model.specs.declared.calls.WorkerState.TheVariants as worker
use Rattle.world_model.specs.Market.{Market, with_slot, with_worker, worker_at, came}
use Rattle.market.specs.Waiting.{market_of}
use Rattle.market.proofs.Keeping.{came_kept, both_set, held_there, came_in, came_home}
use Rattle.market.proofs.state.MarketState.came.Goals as goal
use Rattle.market.proofs.state.MarketState.came.Goals.{then-is_in, else-is_in}

pub invariant_of-self : goal.invariant_of-self
invariant_of-self c =
    let m = market_of c.self.inside.levels.items c.self.inside.slots.items c.self.inside.waiting c.self.inside.workers.items in
    let call = c.in-Some-Holds.call in
    let at : worker_at m c.args.worker ≡ Some (worker.Holds call) =
    ap (λ (n : Market). worker_at n c.args.worker) c.self.view_is ∙ sym c.worker.ensures ∙ c.in-Some-Holds.is ∙ ap Some c.in-Some-Holds.field-0-is in
    let there = held_there m c.args.worker call c.self.invariant.0 at in
    let set = both_set c.self.inside.levels.items c.self.inside.slots.items c.self.inside.waiting c.self.inside.workers.items c.args.worker call c.if-is_in.slot.0 c.if-is_in.slot.1
    c.index_mut.result.now c.set.new.self c.index_mut.ensures.value there.0 c.set.ensures in
    let is : with_worker (with_slot m call.tenant call.slot c.if-is_in.slot.0) c.args.worker c.if-is_in.slot.1 ≡ came m c.args.worker c.args.is_in = elim c.if-is_in.branch [
      | then-is_in w ↦ came_in m c.args.worker c.args.is_in call c.if-is_in.slot at w.if-is_in.true w.slot-is
      | else-is_in w ↦ came_home m c.args.worker c.args.is_in call c.if-is_in.slot at w.if-is_in.false w.slot-is
    ] in
    came_kept m _ c.self.inside.waiting c.args.worker c.args.is_in (set ∙ is) c.self.invariant
