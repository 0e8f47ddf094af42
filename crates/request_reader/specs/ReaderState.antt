-- What the fields of a reader of lines say.
use Rattle.std.specs.Prelude.{◌≡◌, ◌+◌, [], true, false}
use Rattle.request_reader.specs.Reading.{Reading}
use Rattle.request_reader.specs.declared.lines.TheConstants.{BLOCK}
use Rattle.request_reader.specs.declared.lines.LineReader.TheInside.{Inside}

abbrev pub reading : Inside → Reading
reading r = record { limit = r.limit; line = r.window.line; held = r.window.held; is_within_long = r.is_within_long; is_ended = r.is_ended; turns = r.turns }

pub record IsReader (r : Inside) : Type 0 where
  -- room for a line and for a block more
  pub room : r.window.size ≡ r.limit + BLOCK
  -- nothing is left at the end
  pub ended : r.is_ended ≡ true → (r.window.held ≡ []) × (r.is_within_long ≡ false)
