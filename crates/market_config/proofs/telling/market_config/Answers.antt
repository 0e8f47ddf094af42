use Rattle.std.proofs.Common.{◌≡◌, ◌≤◌, length, map, take_all, ap, ◌∙◌, rules}
use Rattle.market_config.specs.Told.{market_tenant}
use Rattle.market_config.proofs.Valid.{told_valid}
use Rattle.market_config.proofs.telling.market_config.Goals as goal

pub new-requires : goal.new-requires
new-requires c =
    let tenants = c.tenants-tenants.result.now in
    let all : length tenants ≤ c.loop-tenant.tenant-index = search rules in
    let told : c.loop-tenant.told.items ≡ map market_tenant c.args.config.now.tenants =
    c.loop-tenant.invariant ∙ ap (map market_tenant) (take_all c.loop-tenant.tenant-index tenants all ∙ c.tenants-tenants.ensures.value) in
    told_valid c.args.config.now c.loop-tenant.told.items c.tenants-tenants.ensures.valid told
