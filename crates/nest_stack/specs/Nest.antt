-- The stacks of the slots, each with its rows from the lowest to the topmost. Heights are counted from 1.
use Rattle.std.specs.Prelude.{ℕ, ◌-◌, if◌then◌else◌, List, [], Option, length, fold, slice_get, slice_index_or, slice_set, take}
use Rattle.std.specs.List.{enumerate_from}
use Rattle.std.specs.Option.{option_map_or}
use Rattle.job_step.specs.declared.frames.Frame.{Frame}
use Rattle.nest_stack.specs.declared.stack.Nested.{Nested}

-- for each slot its stack
abbrev pub Stacks : Type 0
Stacks = List (List Nested)

abbrev pub stack : Stacks → (slot : ℕ) → List Nested
stack stacks slot = slice_index_or stacks slot []

abbrev pub with_stack : Stacks → (slot : ℕ) → List Nested → Stacks
with_stack stacks slot nested = slice_set stacks slot nested

abbrev pub at_height : List Nested → ℕ → Option Nested
at_height nested height = slice_get nested (height - 1)

abbrev pub top : List Nested → Option Nested
top nested = at_height nested (length nested)

-- the rows below a height
abbrev pub below : List Nested → ℕ → List Nested
below nested height = take (height - 1) nested

-- the stack with another frame in its topmost row
abbrev pub with_top_frame : List Nested → Frame → List Nested
with_top_frame nested frame = option_map_or (λ t. slice_set nested (length nested - 1) (record t { frame = frame })) (top nested) nested

-- the height of the highest row that is not a region, or 0 if there is none
abbrev pub task_height : List Nested → ℕ
task_height nested = fold (λ height (p : ℕ × Nested). if p.1.is_region then height else p.0) 0 (enumerate_from 1 nested)
