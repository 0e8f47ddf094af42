-- Fresh seats, and seats that were given back.
use Rattle.std.proofs.Common.{inl, inr, ◌+◌, ◌++◌, ◌<◌, ◌∙◌, ℕ, List, [], ◌∷◌, Option, Some, None, Result, Ok, Err, IfOk, IfSome, arith, filter, length, length-append, refl}
use Rattle.std.proofs.lemmas.List.{get_or-append-add, get_or_append_left}
use Rattle.std.specs.Prelude.{All, Contains, flat_map}
use Rattle.std.specs.List.{enumerate_from, range_with_len}
use Rattle.std.proofs.lemmas.List.Elements.{All-nil, All-append, All-map, All-filter, All-weaker, Contains-get_or}
use Rattle.job_language.specs.declared.tenants.Tenant.{Tenant}
use Rattle.tenant_lock.specs.Doors.{DoorData}
use Rattle.tenant_lock.specs.declared.doors.Closed.{Closed}
use Rattle.tenant_lock.specs.declared.faults.CloseFault.{CloseFault}
use Rattle.tenant_book.specs.Fronts.{FrontData}
use Rattle.tenant_record.specs.SeatData.{SeatData, first_seat, first_seats}
use Rattle.server_house.specs.Houses.{AreEnds, IsEnd, is_of}
use Rattle.server_house.specs.Posts.{ClientSeen, IsClient, IsFresh}
use Rattle.server_house.specs.Returned.{IsGivenBack, IsAskedBy, AreAskedBy}
use Rattle.server_house.specs.Sessions.{ServesClient}
use Rattle.session_core.specs.declared.serving.SessionEnd.{SessionEnd}

-- The seats of tenants that have done nothing are fresh.
pub fresh_from : (seats n : ℕ) (ts : List Tenant) → All IsFresh (flat_map (λ (t : ℕ × Tenant). first_seats t.0 t.1.steps seats) (enumerate_from n ts))
fresh_from seats n [] = All-nil IsFresh
fresh_from seats n (t ∷ ts) =
    All-append IsFresh (first_seats n t.steps seats) _
    (All-map IsFresh (first_seat n t.steps) (range_with_len 0 seats) (λ k d low. record { log = refl; full = refl }))
    (fresh_from seats (n + 1) ts)

pub fresh_given_back : (all : List FrontData) (seats : List SeatData) → All IsFresh seats → All (IsGivenBack all) seats
fresh_given_back all seats fresh = All-weaker IsFresh (IsGivenBack all) (λ s is_fresh. inl is_fresh) seats fresh

-- More fronts take nothing away.
pub more_fronts : (all more : List FrontData) (seats : List SeatData) → ((f : FrontData) → Contains all f → Contains more f) → All (IsGivenBack all) seats → All (IsGivenBack more) seats
more_fronts all more seats within are = All-weaker (IsGivenBack all) (IsGivenBack more) (λ s is. elim is [
  | inl fresh ↦ inl fresh
  | inr from ↦ inr (record {
    client = from.client;
    begins = from.begins;
    bytes = from.bytes;
    left = from.left;
    written = from.written;
    out = from.out;
    seats = from.seats;
    end = from.end;
    fronts = from.fronts;
    serves = from.serves;
    is_one = from.is_one;
    told = λ f one. within f (from.told f one);
  })
]) seats are

within_left : (xs ys : List FrontData) (f : FrontData) → Contains xs f → Contains (xs ++ ys) f
within_left xs ys f is = (is.0, omega (arith, is.1, length-append xs ys), get_or_append_left xs ys f is.0 is.1 ∙ is.2)

within_right : (xs ys : List FrontData) (f : FrontData) → Contains ys f → Contains (xs ++ ys) f
within_right xs ys f is = (length xs + is.0, omega (arith, is.1, length-append xs ys), get_or-append-add xs ys is.0 f ∙ is.2)

-- What came back later is kept with what came back before.
pub both_given_back : (all seen : List FrontData) (seats own : List SeatData) → All (IsGivenBack all) seats → All (IsGivenBack seen) own → All (IsGivenBack (all ++ seen)) (seats ++ own)
both_given_back all seen seats own before after =
    All-append (IsGivenBack (all ++ seen)) seats own (more_fronts all (all ++ seen) seats (within_left all seen) before) (more_fronts seen (all ++ seen) own (within_right all seen) after)

pub before_given_back : (all seen : List FrontData) (seats : List SeatData) → All (IsGivenBack all) seats → All (IsGivenBack (all ++ seen)) seats
before_given_back all seen seats before = more_fronts all (all ++ seen) seats (within_left all seen) before

pub session_given_back : (c : ClientSeen) (bytes left written out : Option (List ℕ)) (seats : List SeatData) (fronts : List FrontData) (end : SessionEnd) → IsClient c →
    ServesClient c bytes left written out seats fronts end → All (IsGivenBack fronts) seats
session_given_back c bytes left written out seats fronts end begins serves k s low = inr (record {
  client = c;
  begins = begins;
  bytes = bytes;
  left = left;
  written = written;
  out = out;
  seats = seats;
  fronts = fronts;
  end = end;
  serves = serves;
  is_one = Contains-get_or seats k s low;
  told = λ f one. one;
})

module _ (are : SeatData → Type 0) where
  asked_end : (d : DoorData) (seats : List SeatData) (end : Result Closed CloseFault) → All are seats → IsEnd d (filter (is_of d.tenant) seats) end →
      IfOk end (λ (closed : Closed). IsAskedBy are d closed.history.items)
  asked_end d seats (Ok closed) each e = record {
    seats = filter (is_of d.tenant) seats;
    closes = e.closed;
    each = All-filter (is_of d.tenant) are seats each;
  }
  asked_end d seats (Err fault) each e = tt

  pub asked_by : (doors : List DoorData) (seats : List SeatData) (ends : List (Result Closed CloseFault)) → All are seats → AreEnds doors seats ends → AreAskedBy are doors ends
  asked_by [] seats [] each ends_are = tt
  asked_by [] seats (end ∷ ends) each ends_are = absurd ends_are
  asked_by (d ∷ doors) seats [] each ends_are = absurd ends_are
  asked_by (d ∷ doors) seats (end ∷ ends) each ends_are = (asked_end d seats end each ends_are.0, asked_by doors seats ends each ends_are.1)

-- what follows where there is an answer
pub if_ok : {A E : Type 0} {P Q : A → Type 0} (r : Result A E) → ((a : A) → P a → Q a) → IfOk r P → IfOk r Q
if_ok (Ok a) follows holds = follows a holds
if_ok (Err e) follows holds = tt

-- Seats that nobody used are kept with what came back before.
pub fresh_kept : (all : List FrontData) (seats own : List SeatData) → All (IsGivenBack all) seats → All IsFresh own → All (IsGivenBack all) (seats ++ own)
fresh_kept all seats own before fresh = All-append (IsGivenBack all) seats own before (fresh_given_back all own fresh)

pub if_some : {A : Type 0} {P Q : A → Type 0} (r : Option A) → ((a : A) → P a → Q a) → IfSome r P → IfSome r Q
if_some (Some a) follows holds = follows a holds
if_some None follows holds = tt
