-- A writer that got a first part of a text.
use Rattle.std.specs.Prelude.{ℕ, ◌<◌, List, Option, length, take}
use Rattle.std.specs.Io.KnownBytes.{Appends}

-- some of the bytes, from the first on
pub record AppendsPart (before after : Option (List ℕ)) (text : List ℕ) : Type 0 where
  pub count : ℕ
  pub appended : Appends before after (take count text)

-- fewer than all of them
pub record AppendsFewer (before after : Option (List ℕ)) (text : List ℕ) : Type 0 where
  pub count : ℕ
  pub fewer : count < length text
  pub appended : Appends before after (take count text)
