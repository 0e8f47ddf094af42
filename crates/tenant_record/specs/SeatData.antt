-- Seats, and what they keep of the replies to their holders.
use Rattle.std.specs.Prelude.{ℕ, nat_lt, Bool, true, false, ◌||◌, List, [], ◌++◌, length, map}
use Rattle.std.specs.List.{range_with_len}
use Rattle.job_language.specs.declared.answers.Answer.TheVariants.{Replied}
use Rattle.job_language.specs.declared.answers.Reply.{Reply}
use Rattle.job_language.specs.declared.answers.Reply.TheVariants.{Refused}
use Rattle.job_language.specs.declared.errors.Error.TheVariants.{HistoryFull}
use Rattle.job_language.specs.declared.requests.Request.{Request}
use Rattle.job_language.specs.declared.steps.Entry.{Entry}
use Rattle.job_language.specs.declared.steps.Step.TheVariants.{Ask}
use Rattle.tenant_record.specs.History.{entries_of}

-- A tenant's seat: its number, from 0, how many entries its log may have, the asks that were recorded, in order and with their replies, and whether one of them met a full history.
pub record SeatData : Type 0 where
  pub tenant : ℕ
  pub number : ℕ
  pub limit : ℕ
  pub log : List Entry
  pub full : Bool

abbrev pub has_seat_room : SeatData → Bool
has_seat_room s = nat_lt (length s.log) s.limit

abbrev pub is_full_reply : Reply → Bool
is_full_reply (Refused HistoryFull) = true
is_full_reply reply = false

-- the seat after an ask with that reply
abbrev pub asked : SeatData → Request → Reply → SeatData
asked s request reply = record s { log = s.log ++ entries_of (Ask request) (Replied reply); full = s.full || is_full_reply reply }

-- a seat that has asked nothing yet
abbrev pub first_seat : (tenant limit number : ℕ) → SeatData
first_seat tenant limit number = record { tenant = tenant; number = number; limit = limit; log = []; full = false }

-- the first `count` seats of a tenant, numbered from 0
abbrev pub first_seats : (tenant limit count : ℕ) → List SeatData
first_seats tenant limit count = map (first_seat tenant limit) (range_with_len 0 count)
