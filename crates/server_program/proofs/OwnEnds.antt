-- The ends of a house's tenants are their own.
use Rattle.std.proofs.Common.{◌≡◌, ℕ, ◌+◌, List, [], ◌∷◌, Result, ap, filter, map, subst}
use Rattle.std.specs.List.{AllZip, enumerate_from}
use Rattle.job_language.specs.declared.tenants.Tenant.{Tenant}
use Rattle.server_house.specs.Houses.{IsEnd, door_of, is_of, plain}
use Rattle.server_program.specs.Ends.{AreOwnEnds, IsOwnEnd}
use Rattle.tenant_lock.specs.Doors.{DoorData}
use Rattle.tenant_lock.specs.declared.doors.Closed.{Closed}
use Rattle.tenant_lock.specs.declared.faults.CloseFault.{CloseFault}
use Rattle.tenant_record.specs.SeatData.{SeatData}

head_same : (d e : DoorData) (ds es : List DoorData) → d ∷ ds ≡ e ∷ es → d ≡ e
head_same d e ds es is = cc is

tail_same : (d e : DoorData) (ds es : List DoorData) → d ∷ ds ≡ e ∷ es → ds ≡ es
tail_same d e ds es is = cc is

pub own_from : (n k : ℕ) (ts : List Tenant) (doors : List DoorData) (seats : List SeatData) (ends : List (Result Closed CloseFault)) → map plain doors ≡ map (door_of n) (enumerate_from k ts) →
    AllZip (λ (d : DoorData) end. IsEnd d (filter (is_of d.tenant) seats) end) doors ends → AreOwnEnds ts ends
own_from n k [] [] seats [] are all = tt
own_from n k [] [] seats (e ∷ es) are all = absurd all
own_from n k [] (d ∷ ds) seats ends are all = absurd (cc are)
own_from n k (t ∷ ts) [] seats ends are all = absurd (cc are)
own_from n k (t ∷ ts) (d ∷ ds) seats [] are all = absurd all
own_from n k (t ∷ ts) (d ∷ ds) seats (e ∷ es) are all = (
  subst (λ (c : Tenant). IsOwnEnd c e) (ap (λ (x : DoorData). x.config) (head_same _ _ _ _ are)) all.0.own,
  own_from n (k + 1) ts ds seats es (tail_same _ _ _ _ are) all.1,
)
