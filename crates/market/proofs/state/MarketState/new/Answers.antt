use Rattle.std.proofs.Common.{◌≡◌, ◌≤◌, length, replicate, rules}
use Rattle.world_model.specs.declared.calls.WorkerState.TheVariants.{Free}
use Rattle.market.proofs.Starting.{first_kept, first_is}
use Rattle.market.proofs.state.MarketState.new.Goals as goal

pub invariant_of-result : goal.invariant_of-result
invariant_of-result c =
    let all : length c.tenants-tenants.result.now ≤ c.loop-tenant.tenant-index = search rules in
    let workers : c.in_ok-vec.field-0.items ≡ replicate c.args.workers Free = search rules in
    let is = first_is c.args.config.now c.tenants-tenants.result.now c.args.workers c.loop-tenant.tenant-index c.in_ok-new-2.field-0 c.loop-tenant.levels.items c.loop-tenant.slots.items
    c.in_ok-vec.field-0.items c.in_ok-new-2.ensures c.tenants-tenants.ensures.value all c.loop-tenant.invariant.0 c.loop-tenant.invariant.1 workers in
    first_kept c.args.config.now c.args.workers c.in_ok-new-2.field-0 _ c.in_ok-new-2.ensures is

pub returns : goal.returns
returns c =
    let all : length c.tenants-tenants.result.now ≤ c.loop-tenant.tenant-index = search rules in
    let workers : c.in_ok-vec.field-0.items ≡ replicate c.args.workers Free = search rules in
    first_is c.args.config.now c.tenants-tenants.result.now c.args.workers c.loop-tenant.tenant-index c.in_ok-new-2.field-0 c.loop-tenant.levels.items c.loop-tenant.slots.items
    c.in_ok-vec.field-0.items c.in_ok-new-2.ensures c.tenants-tenants.ensures.value all c.loop-tenant.invariant.0 c.loop-tenant.invariant.1 workers
