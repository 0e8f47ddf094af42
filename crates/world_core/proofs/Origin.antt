-- The world that has taken no step yet.
use Rattle.std.proofs.Common.{◌≡◌, ℕ, ◌<◌, List, [], ◌∷◌, length, map, replicate, refl, sym, ap, ◌∙◌, arith}
use Rattle.std.specs.Prelude.{slice_index_or}
use Rattle.std.proofs.lemmas.List.{get_or-map, length-map}
use Rattle.job_language.specs.declared.tenants.Tenant.{Tenant}
use Rattle.job_language.specs.Configuration.{Configuration}
use Rattle.market_config.specs.declared.config.MarketTenant.{MarketTenant}
use Rattle.market.specs.First.{first_market}
use Rattle.market.specs.First as market
use Rattle.tenant_model.specs.State.{State, empty}
use Rattle.world_model.specs.declared.calls.WorkerState.TheVariants.{Free}
use Rattle.world_model.specs.Market.{Market}
use Rattle.world_model.specs.World.{start, first_slots, no_tenant, state_of}
use Rattle.world_model.proofs.Forgetting.{start_orderly}
use Rattle.market_config.specs.Told.{market_tenant}
use Rattle.world_core.specs.WorldData.{IsAligned}
use Rattle.world_core.specs.Represents.{Represents}

levels_are : (ts : List Tenant) → map (λ (t : MarketTenant). t.level) (map market_tenant ts) ≡ map (λ (t : Tenant). t.priority) ts
levels_are [] = refl
levels_are (t ∷ ts) = ap (λ l. t.priority ∷ l) (levels_are ts)

slots_are : (ts : List Tenant) → map market.first_slots (map market_tenant ts) ≡ map first_slots ts
slots_are [] = refl
slots_are (t ∷ ts) = ap (λ l. first_slots t ∷ l) (slots_are ts)

-- The market in which nothing was done yet is that of the start.
pub first_is : (c : Configuration) → first_market (map market_tenant c.tenants) c.workers ≡ (start c).market
first_is c = λ i. record { levels = levels_are c.tenants i; slots = slots_are c.tenants i; high = []; normal = []; low = []; workers = replicate c.workers Free }

module _ {A : Type 0} (arenas : List A) (m : Market) (c : Configuration) (long : length arenas ≡ length c.tenants) (same : m ≡ (start c).market) where
  -- the start is in order
  pub start_held : IsAligned (record { arenas = arenas; market = m })
  start_held = rw same (record {
    orderly = start_orderly c;
    aligned = length-map c.tenants first_slots ∙ sym long;
  })

  -- and is represented
  pub start_represented : (stands_for : A → State → Type 0) → ((t : ℕ) (d : A) → t < length arenas → stands_for (slice_index_or arenas t d) (empty (slice_index_or c.tenants t no_tenant))) →
      Represents stands_for (record { arenas = arenas; market = m }) (start c)
  start_represented stands_for each = record {
    market_is = same;
    long = long ∙ sym (length-map c.tenants empty);
    each = λ t d there.
        let state : state_of (start c) t ≡ empty (slice_index_or c.tenants t no_tenant) = get_or-map empty c.tenants t no_tenant (empty no_tenant) (omega (arith, there, long)) in
        rw state (each t d there);
  }
