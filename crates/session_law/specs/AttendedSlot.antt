-- What attending a slot does to an arena, in the states that it stands for.
use Rattle.std.specs.Prelude.{ℕ, ◌≡◌, ◌<◌, replicate}
use Rattle.job_language.specs.declared.answers.Moved.TheVariants as moved
use Rattle.job_language.specs.declared.steps.Step.TheVariants.{Advance}
use Rattle.tenant_model.specs.State.{State}
use Rattle.tenant_model.specs.Walks.{height}
use Rattle.tenant_model.specs.Advance.{advance}
use Rattle.tenant_model.specs.Solo.{after}
use Rattle.arena_rows.specs.Held.{Held}
use Rattle.arena_core.specs.Stands.{StandsFor}
use Rattle.nested_wait.specs.declared.attending.Attended.{Attended}
use Rattle.nested_wait.specs.declared.attending.Attended.TheVariants.{Below, Full, Stopped}

-- the state after n advances of the slot
abbrev pub advanced : State → (slot n : ℕ) → State
advanced s slot n = after s (replicate n (Advance slot))

-- Below: the slot's stack is below the floor. Full and Stopped: one more advance would be Full or Idle, and change nothing.
abbrev pub EndsIn : State → (slot floor : ℕ) → Attended → Type 0
EndsIn t slot floor Below = height t.rows slot < floor
EndsIn t slot floor Full = advance t slot ≡ (moved.Full, t)
EndsIn t slot floor Stopped = advance t slot ≡ (moved.Idle, t)

-- The slot was advanced some times, and then the end came.
abbrev pub Attends : (floor : ℕ) → Attended → (slot : ℕ) → State → Held → Type 0
Attends floor how slot s b = (n : ℕ) × (StandsFor b (advanced s slot n) × EndsIn (advanced s slot n) slot floor how)
