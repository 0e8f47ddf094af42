-- What the fields of a seat say.
use Rattle.std.specs.Prelude.{◌≤◌, vec_capacity}
use Rattle.tenant_record.specs.SeatData.{SeatData}
use Rattle.tenant_record.specs.declared.seats.Seat.TheInside.{Inside}

abbrev pub seat_data : Inside → SeatData
seat_data s = record { tenant = s.tenant; number = s.number; limit = s.limit; log = s.log.items; full = s.full }

-- Room for the log is reserved.
abbrev pub IsSeat : Inside → Type 0
IsSeat s = s.limit ≤ vec_capacity s.log
