use Rattle.std.proofs.Common.{◌≡◌, length, sym, ◌∙◌, ap, subst, arith}
use Rattle.std.specs.Prelude.{All, map}
use Rattle.std.proofs.lemmas.List.{length-map}
use Rattle.job_language.specs.Tenant.{IsValidTenant}
use Rattle.tenant_lock.specs.Doors.{DoorData}
use Rattle.server_doors.specs.Slots.{AreNumbered}
use Rattle.server_house.specs.Houses.{doors_of, plain}
use Rattle.market_config.specs.Told.{market_tenant}
use Rattle.server_house.proofs.Houses.{length_doors, market_from, market_plain, names_from, names_plain, numbered_from, numbered_plain, valid_from, valid_plain}
use Rattle.job_language.specs.Configuration.{names_of}
use Rattle.server_house.specs.Posts.{IsFresh}
use Rattle.server_house.proofs.Seats.{fresh_from}
use Rattle.server_house.proofs.house.House.open.Goals as goal

pub invariant_of-house : goal.invariant_of-house
invariant_of-house g c =
    let tenants = c.args.config.now.tenants in
    let own = c.in_ok-doors.doors.items in
    let doors : map plain own ≡ doors_of c.from.result tenants = c.in_ok-doors.ensures.doors ∙ ap (doors_of c.from.result) c.tenants-tenants.ensures.value in
    record {
      doors = numbered_plain own (subst AreNumbered (sym doors) (λ k d low. let it = numbered_from c.from.result 0 tenants k d low in omega (arith, it)));
      tenants = valid_plain own (subst (All (λ (d : DoorData). IsValidTenant d.config)) (sym doors) (valid_from c.from.result 0 tenants c.tenants-tenants.ensures.valid.each));
      names = c.in_ok-names.ensures ∙ ap names_of c.tenants-tenants.ensures.value ∙ sym (names_plain own ∙ ap (map (λ (d : DoorData). d.config.name)) doors ∙ names_from c.from.result 0 tenants);
      levels = ap length c.in_ok-queues.ensures.queues.0 ∙ ap length c.in_ok-market.ensures ∙ length-map tenants _ ∙
          sym (sym (length-map own plain) ∙ ap length doors ∙ length_doors c.from.result 0 tenants);
      market = c.in_ok-queues.ensures.queues.0 ∙ c.in_ok-market.ensures ∙ sym (market_plain own ∙ ap (map (λ (d : DoorData). market_tenant d.config)) doors ∙ market_from c.from.result 0 tenants);
    }

pub new-requires-3 : goal.new-requires-3
new-requires-3 g c = subst (All IsFresh) (sym c.in_ok-doors.ensures.seats) (fresh_from c.from.result 0 c.tenants-tenants.result.now)
