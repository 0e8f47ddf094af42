-- Advances and arrivals for a caller who may have no room for one more entry.
use Rattle.std.specs.Prelude.{ℕ, Bool, ◌&&◌, not, if◌then◌else◌}
use Rattle.job_language.specs.declared.answers.Answer.TheVariants as answer
use Rattle.job_language.specs.declared.answers.Came.{Came}
use Rattle.job_language.specs.declared.answers.Came.TheVariants as came
use Rattle.job_language.specs.declared.answers.Moved.{Moved}
use Rattle.job_language.specs.declared.answers.Moved.TheVariants as moved
use Rattle.job_language.specs.Recorded.{is_entry}
use Rattle.tenant_model.specs.State.{State}
use Rattle.tenant_model.specs.Advance.{advance, arrive, unless_full}

-- A step that would be an entry changes nothing if there is no room for it.
abbrev pub within : (has_room : Bool) → State → Moved × State → Moved × State
within has_room s step = if is_entry (answer.Moved step.0) && not has_room then (moved.Full, s) else step

-- nor if the history is full
abbrev pub if_room : (has_room : Bool) → State → Moved × State → Moved × State
if_room has_room s step = within has_room s (unless_full s step)

abbrev pub advance_within : (has_room : Bool) → State → (slot : ℕ) → Moved × State
advance_within has_room s slot = within has_room s (advance s slot)

-- the same of an arrival
abbrev pub came_within : (has_room : Bool) → State → Came × State → Came × State
came_within has_room s step = if is_entry (answer.Came step.0) && not has_room then (came.Full, s) else step

abbrev pub arrive_within : (has_room : Bool) → State → (slot : ℕ) → Came × State
arrive_within has_room s slot = came_within has_room s (arrive s slot)
