-- What reading a line came to.
use Rattle.std.specs.Prelude.{◌≡◌, ℕ, ◌≤◌, ◌<◌, List, [], ◌∷◌, length, true, Option, Some, None}
use Rattle.request_reader.specs.declared.lines.LineRead.{LineRead}
use Rattle.request_reader.specs.declared.lines.LineRead.TheVariants as read
use Rattle.request_reader.specs.Lines.{Line, whole, too_long}
use Rattle.request_reader.specs.Reading.{Reading, Tells, Reads, IsPending, IsDone, work_left}

-- the lines that it tells
abbrev pub told_by : LineRead → Reading → List Line
told_by read.Line new = whole new.line ∷ []
told_by read.TooLong new = too_long ∷ []
told_by read.End new = []
told_by read.ReadFault new = []
told_by read.TurnLimit new = []

-- how far the reader of lines is then
abbrev pub ComesTo : LineRead → Reading → Reading → Type 0
ComesTo read.Line old new = length new.line ≤ new.limit
ComesTo read.TooLong old new = new.line ≡ []
ComesTo read.End old new = IsDone new
ComesTo read.ReadFault old new = IsPending new × (new.turns < old.turns)
ComesTo read.TurnLimit old new = IsPending new × (new.turns ≡ 0)

-- A line that is reported lowers the work that is left.
abbrev pub LowersWork : LineRead → Reading → Reading → Type 0
LowersWork read.Line old new = work_left new < work_left old
LowersWork read.TooLong old new = work_left new < work_left old
LowersWork other old new = Unit {0}

-- a line of the bytes that are held, if a newline ends one
abbrev pub Finds : Option LineRead → Reading → Reading → Type 0
Finds None old new = Tells old new [] [] × IsPending new × (new.turns ≡ old.turns)
Finds (Some read) old new = Tells old new [] (told_by read new) × ComesTo read old new × (new.turns ≡ old.turns)

-- the last line of the bytes that are held, if no more come
pub record FindsLast (read : LineRead) (old new : Reading) : Type 0 where
  pub finds : Finds (Some read) old new
  pub ended : new.is_ended ≡ true

-- a line after one call of the reader of bytes, if the bytes that came end one
abbrev pub TurnsTo : Option LineRead → Reading → Reading → Option (List ℕ) → Option (List ℕ) → Type 0
TurnsTo None old new before after = Reads old new before after [] × IsPending new
TurnsTo (Some read) old new before after = Reads old new before after (told_by read new) × ComesTo read old new
