-- A state with one row more, which row n made.
use Rattle.std.specs.Prelude.{ℕ, ◌+◌, Some, None}
use Rattle.job_step.specs.declared.frames.Frame.{Frame}
use Rattle.tenant_model.specs.declared.rows.Kind.TheVariants.{Posted, Spawned, Region}
use Rattle.tenant_model.specs.declared.rows.Phase.{Phase}
use Rattle.tenant_model.specs.declared.rows.Phase.TheVariants.{Live}
use Rattle.tenant_model.specs.State.{State, row}
use Rattle.tenant_model.specs.Walks.{height}
use Rattle.tenant_model.specs.Changes.{new_row, add_row}

-- row n spawned it into a group, on a slot
abbrev pub with_spawned : State → (n slot group : ℕ) → Frame → Phase → State
with_spawned s n slot g f phase = add_row s (new_row (Spawned n g) (row s.rows n).job (Some slot) f phase)

-- row n posted it
abbrev pub with_posted : State → (n : ℕ) → Frame → Phase → State
with_posted s n f phase = add_row s (new_row Posted (row s.rows n).job None f phase)

-- it is a region of row n, live on top of a slot
abbrev pub with_region : State → (n slot : ℕ) → Frame → State
with_region s n slot f = add_row s (new_row (Region n) (row s.rows n).job (Some slot) f (Live slot (height s.rows slot + 1)))
