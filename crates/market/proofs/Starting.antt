-- The market in which nothing was done yet.
use Rattle.std.proofs.Common.{◌≡◌, ℕ, zero, suc, ◌-◌, ◌≤◌, List, [], ◌∷◌, length, map, take, replicate, Bool, refl, sym, ap, ◌∙◌, arith, subst}
use Rattle.std.specs.Prelude.{if◌then◌else◌, count_by}
use Rattle.std.proofs.lemmas.List.Sums.{sum_by-append, sum_by-cons}
use Rattle.circular_buffer.specs.Buffer.{Buffer, buffer}
use Rattle.job_language.specs.declared.tenants.Level.{Level}
use Rattle.job_language.specs.declared.tenants.Level.TheVariants.{High, Normal, Low}
use Rattle.job_language.specs.declared.tenants.Isolation.TheVariants.{Exact}
use Rattle.job_language.specs.declared.tenants.Tenant.{Tenant}
use Rattle.job_language.specs.Configuration.{Configuration}
use Rattle.market_config.specs.declared.calls.Call.{Call}
use Rattle.world_model.specs.declared.calls.SlotState.{SlotState}
use Rattle.world_model.specs.declared.calls.SlotState.TheVariants as slot
use Rattle.world_model.specs.declared.calls.WorkerState.{WorkerState}
use Rattle.world_model.specs.declared.calls.WorkerState.TheVariants as worker
use Rattle.world_model.specs.Market.{Market}
use Rattle.world_model.specs.World.{start}
use Rattle.world_model.specs.World as world
use Rattle.market_config.specs.Config.{is_level}
use Rattle.world_model.specs.Orderly.{is_for_workers, tally, room, IsOrderly, IsCounted}
use Rattle.world_model.proofs.Forgetting.{start_orderly}
use Rattle.world_model.proofs.Counting.{start_counted}
use Rattle.world_model.proofs.Rooms.{counted_none, counted_all}
use Rattle.market_config.specs.declared.config.MarketTenant.{MarketTenant}
use Rattle.market_config.specs.Config.{slots_at, room_at}
use Rattle.market.specs.declared.waiting.WaitingCalls.{WaitingCalls}
use Rattle.market.specs.First.{first_slots, first_market}
use Rattle.market.specs.Waiting.{ring_at, market_of, IsKept}

-- a tenant of which the market knows this
abbrev tenant_for : MarketTenant → Tenant
tenant_for t = record { name = []; priority = t.level; isolation = Exact; slots = t.slots; reserved = t.reserved; rows = 0; steps = 0 }

levels_for : (config : List MarketTenant) → map (λ (t : Tenant). t.priority) (map tenant_for config) ≡ map (λ (t : MarketTenant). t.level) config
levels_for [] = refl
levels_for (t ∷ ts) = ap (λ l. t.level ∷ l) (levels_for ts)

slots_for : (config : List MarketTenant) → map world.first_slots (map tenant_for config) ≡ map first_slots config
slots_for [] = refl
slots_for (t ∷ ts) = ap (λ l. first_slots t ∷ l) (slots_for ts)

abbrev configuration_for : List MarketTenant → ℕ → Configuration
configuration_for config workers = record { tenants = map tenant_for config; workers = workers }

start_is : (config : List MarketTenant) (workers : ℕ) → (start (configuration_for config workers)).market ≡ first_market config workers
start_is config workers = λ i. record { levels = levels_for config i; slots = slots_for config i; high = []; normal = []; low = []; workers = replicate workers worker.Free }

abbrev one_if : Bool → ℕ
one_if b = if b then 1 else 0

row_counted : (t : MarketTenant) → count_by is_for_workers (first_slots t) ≡ t.slots - t.reserved
row_counted t = omega (
  arith,
  sum_by-append (λ (y : SlotState). one_if (is_for_workers y)) (replicate t.reserved slot.Reserved) (replicate (t.slots - t.reserved) slot.Home),
  counted_none t.reserved,
  counted_all (t.slots - t.reserved),
)

same_level : (k l : Level) → is_level k l ≡ is_level l k
same_level High High = refl
same_level High Normal = refl
same_level High Low = refl
same_level Normal High = refl
same_level Normal Normal = refl
same_level Normal Low = refl
same_level Low High = refl
same_level Low Normal = refl
same_level Low Low = refl

tally_first : (level : Level) (config : List MarketTenant) → tally is_for_workers level (map (λ (t : MarketTenant). t.level) config) (map first_slots config) ≡ slots_at level config
tally_first level [] = refl
tally_first level (t ∷ ts) =
    let here : (if is_level level t.level then count_by is_for_workers (first_slots t) else 0) ≡ (if is_level t.level level then t.slots - t.reserved else 0) =
    λ i. if same_level level t.level i then row_counted t i else 0 in
    omega (arith, here, tally_first level ts, sum_by-cons (λ (u : MarketTenant). if is_level u.level level then u.slots - u.reserved else 0) t ts)

-- the market over rings of these rooms, in which nothing was done yet
pub first_kept : (config : List MarketTenant) (workers : ℕ) (w : WaitingCalls) (m : Market) → ((l : Level) → ring_at w l ≡ buffer [] (room_at config l)) → m ≡ first_market config workers → IsKept m w
first_kept config workers w m rings e =
    let c = configuration_for config workers in
    let orderly : IsOrderly (first_market config workers) = subst (λ (n : Market). IsOrderly n) (start_is config workers) (start_orderly c) in
    let counted : IsCounted (first_market config workers) = subst (λ (n : Market). IsCounted n) (start_is config workers) (start_counted c) in
    let fits : (l : Level) → room (first_market config workers) l ≤ (ring_at w l).capacity = λ l. omega (arith, tally_first l config, ap (λ (b : Buffer Call). b.capacity) (rings l)) in
    subst (λ (n : Market). IsKept n w) (sym e) (orderly, counted, fits)

take_all : {X : Type 0} (n : ℕ) (xs : List X) → length xs ≤ n → take n xs ≡ xs
take_all zero [] few = refl
take_all (suc n) [] few = refl
take_all zero (x ∷ xs) few = absurd (omega (arith, few))
take_all (suc n) (x ∷ xs) few = ap (λ l. x ∷ l) (take_all n xs (omega (arith, few)))

-- the lists when each tenant was taken up
pub first_is : (config tenants : List MarketTenant) (workers n : ℕ) (w : WaitingCalls) (levels : List Level) (slots : List (List SlotState)) (ws : List WorkerState) →
    ((l : Level) → ring_at w l ≡ buffer [] (room_at config l)) → tenants ≡ config → length tenants ≤ n
    → levels ≡ map (λ (t : MarketTenant). t.level) (take n tenants) → slots ≡ map first_slots (take n tenants) → ws ≡ replicate workers worker.Free →
    market_of levels slots w ws ≡ first_market config workers
first_is config tenants workers n w levels slots ws rings same all levels_are slots_are workers_are =
    let taken : take n tenants ≡ config = take_all n tenants all ∙ same in
    λ i. record {
      levels = (levels_are ∙ ap (map (λ (t : MarketTenant). t.level)) taken) i;
      slots = (slots_are ∙ ap (map first_slots) taken) i;
      high = (rings High i).items;
      normal = (rings Normal i).items;
      low = (rings Low i).items;
      workers = workers_are i;
    }
