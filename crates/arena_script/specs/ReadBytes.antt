-- Reading on in a reader whose bytes may be known.
use Rattle.std.specs.Prelude.{◌≡◌, ℕ, Bool, false, List, ◌++◌, Option}
use Rattle.std.specs.Io.KnownBytes.{Consumes, IsAtEnd}

-- Some bytes came and were added; if there are no more, the reader is at its end.
pub record ComesOn (before after : Option (List ℕ)) (old new : List ℕ) (has_more : Bool) : Type 0 where
  pub came : List ℕ
  pub added : new ≡ old ++ came
  pub consumed : Consumes before after came
  pub end : has_more ≡ false → IsAtEnd after
