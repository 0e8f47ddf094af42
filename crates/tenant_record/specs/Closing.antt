-- What a tenant's cell and the tokens that come back to it must have in common.
use Rattle.std.specs.Prelude.{ℕ, ◌≡◌, ◌≢◌, ◌<◌, ◌==◌, ◌&&◌, Bool, List, length, Option, Some, None, MatchOption, count_by, sum_by, slice_index_or}
use Rattle.std.specs.List.{list_all, list_any, range_with_len}
use Rattle.tenant_record.specs.Cell.{CellData, is_on}
use Rattle.tenant_record.specs.Logs.{entries_on}
use Rattle.tenant_record.specs.PassData.{PassData}
use Rattle.tenant_record.specs.Places.{place, pass_in}
use Rattle.tenant_record.specs.SeatData.{SeatData}
use Rattle.tenant_record.specs.declared.closing.SlotFault.{SlotFault}
use Rattle.tenant_record.specs.declared.closing.SlotFault.TheVariants.{PassLost, CountWrong, LogWrong}

abbrev pub still_of : CellData → ℕ → Option ℕ
still_of c slot = slice_index_or c.idle_since slot None

-- The log of the pass is exactly the history's entries of the slot, in order, and it knows of the same idle advance as the cell.
pub record Agrees (c : CellData) (at : ℕ) (p : PassData) : Type 0 where
  pub home : pass_in (place c.home at) ≡ Some p
  pub log : p.log ≡ entries_on at c.history
  pub still : p.still ≡ still_of c at

-- The log of the pass has more or fewer entries than the history has of the slot.
pub record Miscounts (c : CellData) (at : ℕ) (p : PassData) : Type 0 where
  pub home : pass_in (place c.home at) ≡ Some p
  pub counts : length p.log ≢ count_by (is_on at) c.history

-- The log has as many entries, but others, or the pass knows of another idle advance than the cell.
pub record Differs (c : CellData) (at : ℕ) (p : PassData) : Type 0 where
  pub home : pass_in (place c.home at) ≡ Some p
  pub counts : length p.log ≡ count_by (is_on at) c.history
  pub differs : p.log ≡ entries_on at c.history → p.still ≡ still_of c at → ⊥

-- what is wrong with a slot
abbrev pub IsSlotFault : CellData → ℕ → Option SlotFault → Type 0
IsSlotFault c slot None = (p : PassData) × Agrees c slot p
IsSlotFault c slot (Some PassLost) = pass_in (place c.home slot) ≡ None
IsSlotFault c slot (Some CountWrong) = (p : PassData) × Miscounts c slot p
IsSlotFault c slot (Some LogWrong) = (p : PassData) × Differs c slot p

-- Nothing is wrong with the slots below that one.
abbrev pub AreWhole : CellData → ℕ → Type 0
AreWhole c below = (slot : ℕ) → slot < below → IsSlotFault c slot None

-- nothing is wrong with any slot, or something is with that one, the first
abbrev pub IsFirstFault : CellData → Option (ℕ × SlotFault) → Type 0
IsFirstFault c r = MatchOption r (AreWhole c c.config.slots) (λ f. AreWhole c f.0 × IsSlotFault c f.0 (Some f.1))

abbrev pub is_seat : (tenant number : ℕ) → SeatData → Bool
is_seat tenant number s = (s.tenant == tenant) && (s.number == number)

abbrev pub has_seat : (tenant : ℕ) → List SeatData → ℕ → Bool
has_seat tenant seats number = list_any (is_seat tenant number) seats

-- Are these the seats of the tenant, as many as that, each of another number?
abbrev pub are_seats : (tenant : ℕ) → List SeatData → (count : ℕ) → Bool
are_seats tenant seats count = (length seats == count) && list_all (has_seat tenant seats) (range_with_len 0 count)

-- how many asks these seats were told of
abbrev pub asks_told : List SeatData → ℕ
asks_told seats = sum_by (λ (s : SeatData). length s.log) seats

-- Was one of these seats told that the history is at its limit?
abbrev pub are_some_seats_full : List SeatData → Bool
are_some_seats_full seats = list_any (λ (s : SeatData). s.full) seats
