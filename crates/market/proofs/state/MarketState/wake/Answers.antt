use Rattle.std.proofs.Common.{◌≡◌, ◌<◌, length, get_or, rules}
use Rattle.market.specs.Waiting.{market_of}
use Rattle.market.proofs.Keeping.{wake_kept, wake_is}
use Rattle.market.proofs.state.MarketState.wake.Goals as goal

pub invariant_of-self-2 : goal.invariant_of-self-2
invariant_of-self-2 c =
    let there : c.args.tenant < length c.self.inside.slots.items = search rules in
    let read : c.in_ok-slots.slots.now ≡ get_or c.self.inside.slots.items c.args.tenant c.in_ok-slots.slots.now = search rules in
    let is = wake_is c.self.inside.levels.items c.self.inside.slots.items c.self.inside.waiting c.self.inside.workers.items c.args.tenant c.in_ok-slots.slots.now c.wake.new.self read there
    c.wake.ensures.state in
    wake_kept (market_of c.self.inside.levels.items c.self.inside.slots.items c.self.inside.waiting c.self.inside.workers.items) _ c.self.inside.waiting c.args.tenant is c.self.invariant
