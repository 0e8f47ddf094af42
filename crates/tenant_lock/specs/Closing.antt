-- What a door that is closed gives, and what it finds wrong.
use Rattle.std.specs.Prelude.{ℕ, ◌≡◌, ◌≢◌, ◌≤◌, ◌<◌, ◌⊎◌, ◌||◌, ◌&&◌, nat_lt, Bool, true, false, List, [], ◌∷◌, length, All, Option, Some, None}
use Rattle.std.specs.List.{list_any}
use Rattle.job_language.specs.declared.steps.Entry.{Entry}
use Rattle.tenant_record.specs.Cell.{CellData, IsRight}
use Rattle.tenant_record.specs.Closing.{IsSlotFault, AreWhole, are_seats, asks_told, are_some_seats_full}
use Rattle.tenant_record.specs.Places.{is_told_full}
use Rattle.tenant_record.specs.SeatData.{SeatData}
use Rattle.tenant_record.specs.declared.closing.SlotFault.{SlotFault}
use Rattle.tenant_record.specs.declared.closing.SlotFault.TheVariants as slot
use Rattle.tenant_lock.specs.SeatLogs.{HasAsks}
use Rattle.tenant_lock.specs.Doors.{DoorData}
use Rattle.tenant_lock.specs.declared.faults.CloseFault.{CloseFault}
use Rattle.tenant_lock.specs.declared.faults.CloseFault.TheVariants.{PassLost, CountWrong, LogWrong, SeatMissing, AskWrong, ConfigWrong, FullWrong}

-- Each log is what the history has of its seat; or that number is the one of the first seat whose log is not.
abbrev pub IsSeatFault : CellData → List SeatData → Option ℕ → Type 0
IsSeatFault c seats None = All (HasAsks c) seats
IsSeatFault c [] (Some n) = ⊥
IsSeatFault c (s ∷ seats) (Some n) = (HasAsks c s × IsSeatFault c seats (Some n)) ⊎ ((HasAsks c s → ⊥) × (n ≡ s.number))

-- The log of each seat is what the history has of it, and the seats were told of as many asks as the history has.
pub record AreAsked (c : CellData) (seats : List SeatData) : Type 0 where
  pub logs : All (HasAsks c) seats
  pub counts : asks_told seats ≡ length c.askers

-- Each log is right, but the seats were told of another number of asks than the history has.
pub record AreMiscounted (c : CellData) (seats : List SeatData) : Type 0 where
  pub logs : All (HasAsks c) seats
  pub counts : asks_told seats ≢ length c.askers

-- what is wrong with the asks: that seat's log, or the counts, for which the number of seats stands
abbrev pub IsAskFault : CellData → List SeatData → (count : ℕ) → Option ℕ → Type 0
IsAskFault c seats count None = AreAsked c seats
IsAskFault c seats count (Some n) = IsSeatFault c seats (Some n) ⊎ ((n ≡ count) × AreMiscounted c seats)

-- Was a token told that the history is at its limit?
abbrev pub is_one_full : CellData → List SeatData → Bool
is_one_full c seats = are_some_seats_full seats || list_any is_told_full c.home

-- Does one report a full history that is not at its limit?
abbrev pub is_full_wrong : CellData → List SeatData → Bool
is_full_wrong c seats = is_one_full c seats && nat_lt (length c.history) c.config.steps

-- what is wrong with the pass of a slot, as a fault of the door
abbrev pub fault_at : ℕ → SlotFault → CloseFault
fault_at at slot.PassLost = PassLost at
fault_at at slot.CountWrong = CountWrong at
fault_at at slot.LogWrong = LogWrong at

-- These are the seats of the door, and the cell is given what the door is.
pub record Fits (c : CellData) (seats : List SeatData) (d : DoorData) : Type 0 where
  pub all_there : are_seats d.tenant seats d.seats ≡ true
  pub config : c.config ≡ d.config

-- Besides, the asks are right.
pub record FitsAsked (c : CellData) (seats : List SeatData) (d : DoorData) : Type 0 where
  pub fits : Fits c seats d
  pub asks : AreAsked c seats

-- Something is wrong with the pass of that slot, the first, and nothing with the seats.
pub record IsFirstWrong (c : CellData) (seats : List SeatData) (d : DoorData) (at : ℕ) (fault : SlotFault) : Type 0 where
  pub asked : FitsAsked c seats d
  pub before : AreWhole c at
  pub wrong : IsSlotFault c at (Some fault)

-- Seats, passes and the cell agree. A token reports a full history only if the history is at its limit.
pub record Agree (c : CellData) (seats : List SeatData) (d : DoorData) : Type 0 where
  pub asked : FitsAsked c seats d
  pub slots : AreWhole c c.config.slots
  pub full : is_one_full c seats ≡ true → c.config.steps ≤ length c.history

-- All agree, but a token reports a full history, and the history is not at its limit.
pub record IsFullWrong (c : CellData) (seats : List SeatData) (d : DoorData) : Type 0 where
  pub asked : FitsAsked c seats d
  pub slots : AreWhole c c.config.slots
  pub full : is_one_full c seats ≡ true
  pub shorter : length c.history < c.config.steps

-- what is wrong with a cell and the seats that came back to its door, in the order in which it is looked for
abbrev pub IsFault : CellData → List SeatData → DoorData → Option CloseFault → Type 0
IsFault c seats d None = Agree c seats d
IsFault c seats d (Some SeatMissing) = are_seats d.tenant seats d.seats ≡ false
IsFault c seats d (Some ConfigWrong) = (are_seats d.tenant seats d.seats ≡ true) × (c.config ≢ d.config)
IsFault c seats d (Some (AskWrong n)) = Fits c seats d × IsAskFault c seats d.seats (Some n)
IsFault c seats d (Some (PassLost at)) = IsFirstWrong c seats d at slot.PassLost
IsFault c seats d (Some (CountWrong at)) = IsFirstWrong c seats d at slot.CountWrong
IsFault c seats d (Some (LogWrong at)) = IsFirstWrong c seats d at slot.LogWrong
IsFault c seats d (Some FullWrong) = IsFullWrong c seats d

-- The history is that of a right cell with which all tokens agree.
pub record Closes (d : DoorData) (seats : List SeatData) (history : List Entry) : Type 0 where
  pub cell : CellData
  pub right : IsRight cell
  pub history_is : history ≡ cell.history
  pub agree : Agree cell seats d

-- There is a right cell with that fault.
pub record IsRefused (d : DoorData) (seats : List SeatData) (fault : CloseFault) : Type 0 where
  pub cell : CellData
  pub right : IsRight cell
  pub fault_is : IsFault cell seats d (Some fault)
