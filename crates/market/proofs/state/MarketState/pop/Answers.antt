use Rattle.std.proofs.Common.{◌≡◌, true, Option, sym, ap, ◌∙◌, subst, arith}
use Rattle.market_config.specs.declared.calls.Call.{Call}
use Rattle.world_model.specs.declared.calls.SlotState.TheVariants as slot
use Rattle.world_model.specs.declared.calls.WorkerState.TheVariants as worker
use Rattle.world_model.specs.Market.{Market, worker_at, is_free, pop}
use Rattle.market.specs.Waiting.{market_of, holding, leaving}
use Rattle.market.proofs.Keeping.{pop_kept, pop_there, pop_some, worker_there, there_row, both_set}
use Rattle.market.proofs.state.MarketState.pop.Goals as goal

pub index_mut-requires : goal.index_mut-requires
index_mut-requires c =
    let m = market_of c.self.inside.levels.items c.self.inside.slots.items c.self.inside.waiting c.self.inside.workers.items in
    let there = pop_there m c.in_ok-call.call (holding m c.pop.new.self) (c.pop.ensures.call m ∙ ap (leaving (holding m c.pop.new.self)) c.in_ok-call.was) c.self.invariant.0 in
    omega (arith, there.0, c.self.inside.slots.ok.0)

pub set-requires : goal.set-requires
set-requires c =
    let m = market_of c.self.inside.levels.items c.self.inside.slots.items c.self.inside.waiting c.self.inside.workers.items in
    let there = pop_there m c.in_ok-call.call (holding m c.pop.new.self) (c.pop.ensures.call m ∙ ap (leaving (holding m c.pop.new.self)) c.in_ok-call.was) c.self.invariant.0 in
    there_row c.self.inside.slots.items c.in_ok-call.call.tenant c.in_ok-call.call.slot _ c.index_mut.ensures.value there

pub index_mut-requires-2 : goal.index_mut-requires-2
index_mut-requires-2 c =
    let m = market_of c.self.inside.levels.items c.self.inside.slots.items c.self.inside.waiting c.self.inside.workers.items in
    let there = worker_there m c.args.worker (subst (λ (n : Market). is_free (worker_at n c.args.worker) ≡ true) (sym c.self.view_is) c.requires) in
    omega (arith, there, c.self.inside.workers.ok.0)

pub invariant_of-self-2 : goal.invariant_of-self-2
invariant_of-self-2 c =
    let m = market_of c.self.inside.levels.items c.self.inside.slots.items c.self.inside.waiting c.self.inside.workers.items in
    let call = c.in_ok-call.call in
    let some = c.pop.ensures.call m ∙ ap (leaving (holding m c.pop.new.self)) c.in_ok-call.was in
    let there = pop_there m call (holding m c.pop.new.self) some c.self.invariant.0 in
    let held = both_set c.self.inside.levels.items c.self.inside.slots.items c.pop.new.self c.self.inside.workers.items c.args.worker call (slot.Held c.args.worker) (worker.Holds call)
    c.index_mut.result.now c.set.new.self c.index_mut.ensures.value there.0 c.set.ensures in
    let is = held ∙ sym (ap (λ (p : Option Call × Market). p.1) (pop_some m c.args.worker call (holding m c.pop.new.self) some)) in
    pop_kept m _ c.self.inside.waiting c.pop.new.self c.args.worker (subst (λ (n : Market). is_free (worker_at n c.args.worker) ≡ true) (sym c.self.view_is) c.requires) is c.pop.ensures.room
    c.self.invariant

pub returns-clause-call : goal.returns-clause-call
returns-clause-call c =
    let m = market_of c.self.inside.levels.items c.self.inside.slots.items c.self.inside.waiting c.self.inside.workers.items in
    let some = c.pop.ensures.call m ∙ ap (leaving (holding m c.pop.new.self)) c.in_ok-call.was in
    sym (ap (λ (p : Option Call × Market). p.0) (pop_some m c.args.worker c.in_ok-call.call (holding m c.pop.new.self) some)) ∙ ap (λ (n : Market). (pop n c.args.worker).0) c.self.view_is
