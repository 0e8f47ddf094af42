-- The doors and the seats of tenants.
use Rattle.std.proofs.Common.{◌≡◌, ◌≢◌, ◌<◌, ◌≤◌, ◌+◌, Bool, not, ℕ, zero, suc, if◌then◌else◌, List, [], ◌∷◌, ◌++◌, Result, Ok, Err, IfOk, length, map, filter, refl, sym, ◌∙◌, ap, subst, inl, inr}
use Rattle.std.proofs.Common.{arith}
use Rattle.std.specs.Prelude.{All, slice_index_or}
use Rattle.std.specs.List.{enumerate_from}
use Rattle.std.proofs.lemmas.Bool.Decides.{eqb_tells}
use Rattle.std.proofs.lemmas.List.{length-map}
use Rattle.std.proofs.lemmas.List.FromFn.{length-enumerate_from}
use Rattle.job_language.specs.Configuration.{names_of}
use Rattle.job_language.specs.Tenant.{IsValidTenant}
use Rattle.job_language.specs.declared.steps.Entry.{Entry}
use Rattle.job_language.specs.declared.tenants.TheConstants.{MAX_SLOTS}
use Rattle.job_language.specs.declared.tenants.Tenant.{Tenant}
use Rattle.market_config.specs.Told.{market_tenant}
use Rattle.tenant_model.specs.State.{empty}
use Rattle.tenant_model.proofs.KeptAdvances.{empty_kept}
use Rattle.tenant_model.proofs.RegionLaws.{keeps_regions}
use Rattle.serial_law.proofs.SerialAnswers.{serial_from_empty}
use Rattle.tenant_lock.specs.Closing.{Closes}
use Rattle.tenant_lock.specs.Doors.{DoorData}
use Rattle.tenant_lock.specs.declared.doors.Closed.{Closed}
use Rattle.tenant_lock.specs.declared.faults.CloseFault.{CloseFault}
use Rattle.tenant_record.specs.History.{IsHistory, steps_of}
use Rattle.tenant_record.specs.SeatData.{SeatData}
use Rattle.server_doors.specs.Slots.{AreNumbered}
use Rattle.server_house.specs.Houses.{IsOwnHistory, door_of, is_of, plain}

-- What holds of doors holds whatever the numbers of their lives are.
plain_at : (doors : List DoorData) (k : ℕ) (d : DoorData) → k < length doors → slice_index_or (map plain doors) k (plain d) ≡ plain (slice_index_or doors k d)
plain_at [] k d low = absurd (omega (arith, low))
plain_at (c ∷ doors) zero d low = refl
plain_at (c ∷ doors) (suc k) d low = plain_at doors k d (omega (arith, low))

pub numbered_plain : (doors : List DoorData) → AreNumbered (map plain doors) → AreNumbered doors
numbered_plain doors are k d low = ap (λ (e : DoorData). e.tenant) (sym (plain_at doors k d low)) ∙ are k (plain d) (omega (arith, low, length-map doors plain))

pub valid_plain : (doors : List DoorData) → All (λ (d : DoorData). IsValidTenant d.config) (map plain doors) → All (λ (d : DoorData). IsValidTenant d.config) doors
valid_plain doors are k d low = subst (λ (e : DoorData). IsValidTenant e.config) (plain_at doors k d low) (are k (plain d) (omega (arith, low, length-map doors plain)))

pub names_plain : (doors : List DoorData) → map (λ (d : DoorData). d.config.name) doors ≡ map (λ (d : DoorData). d.config.name) (map plain doors)
names_plain [] = refl
names_plain (d ∷ doors) = ap (λ rest. d.config.name ∷ rest) (names_plain doors)

pub market_plain : (doors : List DoorData) → map (λ (d : DoorData). market_tenant d.config) doors ≡ map (λ (d : DoorData). market_tenant d.config) (map plain doors)
market_plain [] = refl
market_plain (d ∷ doors) = ap (λ rest. market_tenant d.config ∷ rest) (market_plain doors)

-- One more door of the tenants.
pub plain_more : (doors : List DoorData) (d : DoorData) (rest : List DoorData) → map plain (doors ++ d ∷ []) ++ rest ≡ map plain doors ++ plain d ∷ rest
plain_more [] d rest = refl
plain_more (c ∷ doors) d rest = ap (λ ds. plain c ∷ ds) (plain_more doors d rest)

-- Doors are numbered as their tenants are.
pub numbered_from : (seats n : ℕ) (ts : List Tenant) (k : ℕ) (d : DoorData) → k < length (map (door_of seats) (enumerate_from n ts)) →
    (slice_index_or (map (door_of seats) (enumerate_from n ts)) k d).tenant ≡ n + k
numbered_from seats n [] k d low = absurd (omega (arith, low))
numbered_from seats n (t ∷ ts) zero d low = omega arith
numbered_from seats n (t ∷ ts) (suc k) d low = let rest = numbered_from seats (n + 1) ts k d (omega (arith, low)) in omega (arith, rest)

pub valid_from : (seats n : ℕ) (ts : List Tenant) → All IsValidTenant ts → All (λ (d : DoorData). IsValidTenant d.config) (map (door_of seats) (enumerate_from n ts))
valid_from seats n [] valid k d low = absurd (omega (arith, low))
valid_from seats n (t ∷ ts) valid zero d low = valid 0 t (omega arith)
valid_from seats n (t ∷ ts) valid (suc k) d low = valid_from seats (n + 1) ts (λ j e below. valid (suc j) e (omega (arith, below))) k d (omega (arith, low))

pub names_from : (seats n : ℕ) (ts : List Tenant) → map (λ (d : DoorData). d.config.name) (map (door_of seats) (enumerate_from n ts)) ≡ names_of ts
names_from seats n [] = refl
names_from seats n (t ∷ ts) = ap (λ rest. t.name ∷ rest) (names_from seats (n + 1) ts)

pub market_from : (seats n : ℕ) (ts : List Tenant) → map (λ (d : DoorData). market_tenant d.config) (map (door_of seats) (enumerate_from n ts)) ≡ map market_tenant ts
market_from seats n [] = refl
market_from seats n (t ∷ ts) = ap (λ rest. market_tenant t ∷ rest) (market_from seats (n + 1) ts)

pub length_doors : (seats n : ℕ) (ts : List Tenant) → length (map (door_of seats) (enumerate_from n ts)) ≡ length ts
length_doors seats n ts = length-map (enumerate_from n ts) (door_of seats) ∙ length-enumerate_from n ts

-- A history with which all tokens agree is the tenant's own.
own_history : (d : DoorData) (seats : List SeatData) (history : List Entry) → d.config.slots ≤ MAX_SLOTS → Closes d seats history → IsOwnHistory d.config history
own_history d seats history slots closes = record {
  replays = subst (λ c. IsHistory c history) closes.agree.asked.fits.config (subst (λ h. IsHistory closes.cell.config h) (sym closes.history_is) closes.right.history);
  regions = keeps_regions (empty d.config) (steps_of history) (empty_kept d.config slots);
  serial = serial_from_empty d.config (steps_of history) slots;
}

pub own_end : (d : DoorData) (seats : List SeatData) (end : Result Closed CloseFault) → d.config.slots ≤ MAX_SLOTS → IfOk end (λ (closed : Closed). Closes d seats closed.history.items) →
    IfOk end (λ (closed : Closed). IsOwnHistory d.config closed.history.items)
own_end d seats (Ok closed) slots closes = own_history d seats closed.history.items slots closes
own_end d seats (Err fault) slots closes = tt

module _ (t u : ℕ) (apart : t ≢ u) where
  abbrev is_other : SeatData → Bool
  is_other s = not (is_of t s)

  -- The seats of one tenant stay when those of another are taken.
  pub kept_by_others : (seats : List SeatData) → filter (is_of u) (filter (λ (s : SeatData). not (is_of t s)) seats) ≡ filter (is_of u) seats
  kept_by_others [] = refl
  kept_by_others (s ∷ ss) =
      elim (eqb_tells s.tenant t) [
        | inl h ↦ elim (eqb_tells s.tenant u) [
          | inl g ↦ absurd (apart (sym h.1 ∙ g.1))
          | inr g ↦
              ap (λ b. filter (is_of u) (if not b then s ∷ filter is_other ss else filter is_other ss)) h.0
              ∙ kept_by_others ss
              ∙ ap (λ b. if b then s ∷ filter (is_of u) ss else filter (is_of u) ss) (sym g.0)
        ]
        | inr h ↦
            ap (λ b. filter (is_of u) (if not b then s ∷ filter is_other ss else filter is_other ss)) h.0
            ∙ ap (λ rest. if is_of u s then s ∷ rest else rest) (kept_by_others ss)
      ]
