use Rattle.std.proofs.Common.{◌≡◌, ◌≢◌, ◌++◌, ◌∷◌, [], List, length, filter, not, sym, ◌∙◌, ap, subst, rules, arith}
use Rattle.std.proofs.lemmas.List.{length-append}
use Rattle.std.proofs.lemmas.Iterator.Adapters.{YieldsList-from_vec}
use Rattle.std.proofs.lemmas.Iterator.Consumers.{YieldsList-turn}
use Rattle.std.proofs.lemmas.Slice.Zip.{all_zipped_more}
use Rattle.tenant_lock.specs.Doors.{DoorData}
use Rattle.tenant_record.specs.SeatData.{SeatData}
use Rattle.server_house.specs.Houses.{AreEnds, AreSeenIn, IsEnd, IsSeenIn, is_of}
use Rattle.server_house.proofs.Houses.{kept_by_others}
use Rattle.server_house.proofs.house.House.close.Goals as goal

pub loop-door-preserved : goal.loop-door-preserved
loop-door-preserved g c =
    let seats = c.args.seats.items in
    let so_far = c.loop-door.invariant in
    let door = c.in-Some.door in
    let yielded = c.loop-door.yielded in
    let left = c.loop-door.left.items in
    let turn = YieldsList-turn (YieldsList-from_vec {s = c.into_iter-door-iterator.result} c.into_doors-doors.result.items (search rules) (search rules)) yielded c.loop-door.door-iterator
    c.loop-door.yielded_by c.next.result c.next.new.self door c.in-Some.is c.next.ensures.steps in
    let number : door.tenant ≡ length yielded = ap (λ (d : DoorData). d.tenant) turn.1 ∙ c.into_doors-doors.ensures.numbers (length yielded) door turn.0 in
    let own : c.in_ok-own.field-0.own.items ≡ filter (is_of door.tenant) seats =
    c.in_ok-own.ensures.own ∙ ap (λ t. filter (is_of t) left) c.tenant.ensures ∙ so_far.left door.tenant (omega (arith, number)) in
    let long = length-append yielded (door ∷ []) in
    record {
      ends = subst (AreEnds (yielded ++ door ∷ []) seats) (sym c.in_ok-push.ensures.items)
          (all_zipped_more (λ (d : DoorData) end. IsEnd d (filter (is_of d.tenant) seats) end) yielded c.loop-door.ends.items door c.close_door.result so_far.ends
          (subst (λ (ss : List SeatData). IsEnd door ss c.close_door.result) own c.close_door.ensures.end));
      seen = subst (AreSeenIn c.args.fronts.now (yielded ++ door ∷ [])) (sym c.in_ok-push.ensures.items)
          (all_zipped_more (λ (d : DoorData) end. IsSeenIn c.args.fronts.now d end) yielded c.loop-door.ends.items door c.close_door.result so_far.seen c.close_door.ensures.seen);
      left = λ t above.
          let apart : door.tenant ≢ t = λ e. absurd (omega (arith, above, long, number, e)) in
          ap (filter (is_of t)) c.in_ok-own.ensures.others ∙ ap (λ u. filter (is_of t) (filter (λ (s : SeatData). not (is_of u s)) left)) c.tenant.ensures
          ∙ kept_by_others door.tenant t apart left ∙ so_far.left t (omega (arith, above, long));
    }
