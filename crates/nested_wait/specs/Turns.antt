-- One turn at a door.
use Rattle.std.specs.Prelude.{ℕ, ◌≤◌}
use Rattle.job_language.specs.declared.answers.Moved.{Moved}
use Rattle.job_step.specs.declared.segments.Top.{Top}
use Rattle.job_step.specs.declared.segments.View.{View}
use Rattle.job_step.specs.declared.segments.View.TheVariants as view

-- If a topmost frame is seen, its segment is committed, else an advance is taken.
abbrev pub MovesBy : {D : Type 0} → (D → Top → Moved → D → Type 0) → (D → Moved → D → Type 0) → View → D → Moved → D → Type 0
MovesBy {D = D} commits advances (view.Top top) d m e = commits d top m e
MovesBy {D = D} commits advances view.Bare d m e = advances d m e
MovesBy {D = D} commits advances view.Unshared d m e = advances d m e

-- a turn with this answer: what is seen of the slot decides how it is moved
abbrev pub Turn : {D : Type 0} → (D → View → Type 0) → (D → Top → Moved → D → Type 0) → (D → Moved → D → Type 0) → D → Moved → D → Type 0
Turn {D = D} views commits advances d m e = (seen : View) × (views d seen × MovesBy commits advances seen d m e)

-- a turn while the stack is not below the floor
abbrev pub TurnFrom : {D : Type 0} → (turn : D → Moved → D → Type 0) → (heights : D → ℕ → Type 0) → (floor : ℕ) → D → Moved → D → Type 0
TurnFrom {D = D} turn heights floor d m e = (h : ℕ) × (heights d h × (floor ≤ h) × turn d m e)
