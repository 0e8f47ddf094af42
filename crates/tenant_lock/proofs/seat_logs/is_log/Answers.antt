use Rattle.std.proofs.Common.{◌≡◌, ◌<◌, ◌⊎◌, [], inl, inr, length, nat_lt, true}
use Rattle.std.specs.Prelude.{◌↔◌}
use Rattle.tenant_lock.specs.SeatLogs.{asks_on}
use Rattle.tenant_lock.proofs.Asking.{none_left, tells_empty}
use Rattle.tenant_lock.proofs.seat_logs.is_log.Goals as goal
use Rattle.tenant_lock.proofs.seat_logs.is_log.Goals.{in_default, in_default-2}

pub returns : goal.returns
returns c =
    let ends : (length c.loop-named.named.now < 1) ⊎ (nat_lt (length c.loop-named.entries.now) 1 ≡ true) =
    elim c.if-named-lt1.branch [ in_default w ↦ inl w.in_default.len_below | in_default-2 w ↦ inr search ] in
    let nothing = none_left c.args.number c.loop-named.named.now c.loop-named.entries.now ends in
    let same : (c.args.log.now ≡ asks_on c.args.number c.args.askers.now c.args.history.now) ↔ (c.loop-named.left.now ≡ []) = rw nothing at c.loop-named.invariant in
    let tells = tells_empty c.loop-named.left.now in
    rw c.is_empty.ensures (λ empty. same.1 (tells.0 empty), λ is. tells.1 (same.0 is))
