-- Stacks on each of which there is room for a row more.
use Rattle.std.specs.Prelude.{◌≡◌, ◌<◌, All, List, length}
use Rattle.job_language.specs.declared.tenants.TheConstants.{MAX_SLOTS}
use Rattle.nest_stack.specs.declared.stack.TheConstants.{MAX_HEIGHT}
use Rattle.nest_stack.specs.declared.stack.Nested.{Nested}
use Rattle.nest_stack.specs.Nest.{Stacks}

pub record HaveRoom (stacks : Stacks) : Type 0 where
  pub slots : length stacks ≡ MAX_SLOTS
  pub room : All (λ (s : List Nested). length s < MAX_HEIGHT) stacks
