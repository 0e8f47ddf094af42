-- What is seen of a slot, and what committing a private run does there.
use Rattle.std.specs.Prelude.{ℕ, ◌≡◌, ◌⊎◌, Bool, Option, Some, None}
use Rattle.job_language.specs.declared.answers.Moved.{Moved}
use Rattle.job_language.specs.declared.answers.Moved.TheVariants as moved
use Rattle.job_step.specs.declared.segments.Top.{Top}
use Rattle.job_step.specs.declared.segments.View.{View}
use Rattle.job_step.specs.declared.segments.View.TheVariants as view
use Rattle.tenant_model.specs.State.{State, row, job}
use Rattle.tenant_model.specs.Walks.{top}
use Rattle.arena_steps.specs.Within.{advance_within}

-- the frame of row n with what its private run on the slot depends on
abbrev pub top_frame : State → (slot n : ℕ) → Top
top_frame s slot n = record { program = (job s.jobs (row s.rows n).job).program; frame = (row s.rows n).frame; slot = slot; width = s.config.slots }

abbrev pub IsSeenOf : State → (slot : ℕ) → Option ℕ → View → Type 0
IsSeenOf s slot None seen = seen ≡ view.Bare
IsSeenOf s slot (Some n) seen = (seen ≡ view.Top (top_frame s slot n)) ⊎ (seen ≡ view.Unshared)

-- A slot is bare, or its topmost frame is seen, unless another handle on its program was refused.
abbrev pub IsSeen : State → (slot : ℕ) → View → Type 0
IsSeen s slot seen = IsSeenOf s slot (top s.rows slot) seen

-- A frame is the topmost one of the slot.
abbrev pub IsTopmost : State → (slot : ℕ) → Top → Type 0
IsTopmost s slot t = (n : ℕ) × ((top s.rows slot ≡ Some n) × (t ≡ top_frame s slot n))

-- A commit of the private run of a frame is an advance if that is the topmost frame; else it is stale, and changes nothing.
abbrev pub Commits : (has_room : Bool) → State → (slot : ℕ) → Top → Moved → State → Type 0
Commits has_room s slot t m next =
    (IsTopmost s slot t × (m ≡ (advance_within has_room s slot).0) × (next ≡ (advance_within has_room s slot).1)) ⊎ ((IsTopmost s slot t → ⊥) × (m ≡ moved.Stale) × (next ≡ s))
