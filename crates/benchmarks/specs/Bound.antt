-- Contexts that are bound under one job's.
use Rattle.std.specs.Prelude.{◌<◌, ℕ, length}
use Rattle.cancel_context.specs.Forest.{Forest, IsForest, IsHeld, held_count}

pub record BoundSeen : Type 0 where
  pub contexts : Forest
  pub job : ℕ

-- The job's context is held, and there is room for one more.
pub record AreBound (b : BoundSeen) : Type 0 where
  pub forest : IsForest b.contexts
  pub job : IsHeld b.contexts b.job
  pub room : held_count b.contexts < length b.contexts
