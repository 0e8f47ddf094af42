use Rattle.std.proofs.Common.{◌≡◌, ◌≢◌, ◌∷◌, [], length, arith, sym, ◌∙◌, subst}
use Rattle.std.proofs.lemmas.List.{length-append}
use Rattle.std.proofs.lemmas.List.Elements.{All-push}
use Rattle.std.proofs.lemmas.List.Sorted.{IsPermutation-pop_more}
use Rattle.std.specs.Prelude.{All}
use Rattle.tenant_record.specs.SeatData.{SeatData}
use Rattle.server_house.specs.Posts.{IsFresh, LacksOne}
use Rattle.server_house.proofs.Numbering.{numbered_more, lacks_next}
use Rattle.server_house.proofs.fresh.FreshSeats.take_each.Goals as goal

pub loop-tenant-preserved : goal.loop-tenant-preserved
loop-tenant-preserved c =
    let so_far = c.loop-tenant.invariant in
    let own = c.loop-tenant.own.items in
    let seat = c.in-Some.seat in
    let last : seat.tenant ≡ length own = c.in-Some.ensures.tenant ∙ sym so_far.0 in
    let long = length-append own (seat ∷ []) in
    rw c.push_reserved.ensures.items (
      omega (arith, long, so_far.0),
      numbered_more (λ (s : SeatData). s.tenant) own seat so_far.1 last,
      All-push IsFresh own seat so_far.2 c.in-Some.ensures.fresh,
      IsPermutation-pop_more _ own _ _ seat so_far.3 c.in-Some.ensures.left,
      omega (arith, so_far.4, c.push_reserved.ensures.capacity),
    )

pub returns-in_default-clause-lacks : goal.returns-in_default-clause-lacks
returns-in_default-clause-lacks c =
    let so_far = c.loop-tenant.invariant in
    let own = c.loop-tenant.own.items in
    let left : All (λ (s : SeatData). s.tenant ≢ length own) c.loop-tenant.self = subst (λ n. All (λ (s : SeatData). s.tenant ≢ n) c.loop-tenant.self) (sym so_far.0) c.in_default.ensures.lacks in
    record {
      tenant = length own;
      is_one = omega (arith, so_far.0, c.loop-tenant-test);
      lacks = lacks_next (λ (s : SeatData). s.tenant) _ own c.loop-tenant.self so_far.3 so_far.1 left;
    }
