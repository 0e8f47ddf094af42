use Rattle.std.proofs.Common.{◌≡◌, map, ap, ◌∙◌, subst, IfOk}
use Rattle.market_config.specs.declared.config.MarketTenant.{MarketTenant}
use Rattle.market.specs.First.{first_market}
use Rattle.std.specs.Prelude.{List}
use Rattle.world_model.specs.Market.{Market}
use Rattle.world_model.specs.World.{start}
use Rattle.market_config.specs.Told.{market_tenant}
use Rattle.world_core.proofs.Origin.{first_is}
use Rattle.world_core.proofs.starting.first_market.Goals as goal

pub returns : goal.returns
returns c =
    let config = c.args.config.now in
    let same : first_market c.in_ok-told.told c.workers.result ≡ (start config).market =
    ap (λ (ts : List MarketTenant). first_market ts c.workers.result) c.in_ok-told.ensures ∙ ap (first_market (map market_tenant config.tenants)) c.workers.ensures.value ∙ first_is config in
    subst (λ (m : Market). IfOk c.new.result (λ n. n ≡ m)) same c.new.ensures
