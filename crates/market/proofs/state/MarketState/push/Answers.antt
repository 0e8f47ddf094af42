use Rattle.std.proofs.Common.{◌≡◌, ◌<◌, true, length, sym, subst, arith}
use Rattle.world_model.specs.Market.{Market, slot_at, is_due}
use Rattle.market.specs.Waiting.{market_of}
use Rattle.market.proofs.Keeping.{push_kept, ring_fits, push_is, due_there}
use Rattle.market.proofs.state.MarketState.push.Goals as goal

pub push-requires : goal.push-requires
push-requires c = ring_fits c.self.inside.levels.items c.self.inside.slots.items c.self.inside.waiting c.self.inside.workers.items c.args.call.tenant c.args.call.slot _ c.index-level.ensures
    (subst (λ (m : Market). is_due (slot_at m c.args.call.tenant c.args.call.slot) ≡ true) (sym c.self.view_is) c.requires) c.self.invariant

pub invariant_of-self : goal.invariant_of-self
invariant_of-self c =
    let m = market_of c.self.inside.levels.items c.self.inside.slots.items c.self.inside.waiting c.self.inside.workers.items in
    let due = subst (λ (m : Market). is_due (slot_at m c.args.call.tenant c.args.call.slot) ≡ true) (sym c.self.view_is) c.requires in
    let there = due_there m c.args.call.tenant c.args.call.slot due in
    let level_there : c.args.call.tenant < length c.self.inside.levels.items = omega (arith, there.0, c.self.invariant.1.aligned) in
    let is = push_is c.self.inside.levels.items c.self.inside.slots.items c.self.inside.waiting c.push.new.self c.self.inside.workers.items c.args.call c.index-level.result.now c.index_mut.result.now
    c.set.new.self c.index_mut.ensures.value there.0 c.set.ensures c.index-level.ensures level_there c.push.ensures.calls in
    push_kept m _ c.self.inside.waiting c.push.new.self c.args.call.tenant c.args.call.slot due is c.push.ensures.room c.self.invariant
