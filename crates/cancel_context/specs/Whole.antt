-- What is true of all contexts.
use Rattle.std.specs.Prelude.{◌≡◌, []}
use Rattle.cancel_context.specs.Forest.{Forest}
use Rattle.cancel_context.specs.Order.{IsSound}
use Rattle.cancel_context.specs.Below.{Links, IsLinked}
use Rattle.cancel_context.specs.Flags.{Flagged, AreFlags}

pub record IsWhole (forest : Forest) (links : Links) (flagged : Flagged) : Type 0 where
  pub sound : IsSound forest
  pub linked : IsLinked forest links
  pub flags : AreFlags forest flagged.flags
  pub settled : flagged.reached ≡ []
