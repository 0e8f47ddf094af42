-- The lines of a host: compact JSON.
use Rattle.std.specs.Prelude.{ℕ, List}
use Rattle.serde.specs.Event.{Log}
use Rattle.serde_json.specs.Sent.{IsTextOf}

-- The text has the tokens of something that serde wrote, and no space between them.
abbrev pub IsCompact : List ℕ → Type 0
IsCompact text = (log : Log) × IsTextOf log text
