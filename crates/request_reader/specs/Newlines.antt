-- Where a line ends.
use Rattle.std.specs.Prelude.{◌≡◌, ℕ, ◌<◌, List, length, take, slice_index}
use Rattle.request_reader.specs.Lines.{newline, HasNoNewline}

-- the first newline stands at this place
pub record IsFirstNewline (bytes : List ℕ) (place : ℕ) : Type 0 where
  pub within : place < length bytes
  pub before : HasNoNewline (take place bytes)
  pub here : slice_index bytes place ≡ newline
