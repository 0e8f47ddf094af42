-- How the code runs a frame: by its place and its registers, in the instructions of one procedure.
use Rattle.std.specs.Prelude.{ℕ, ◌<◌, ℤ, List}
use Rattle.job_step.specs.declared.effects.Effect.{Effect}
use Rattle.job_step.specs.declared.effects.Effect.TheVariants.{Moves, DividesByZero, IsShared}
use Rattle.job_step.specs.declared.frames.Frame.{Frame}
use Rattle.job_step.specs.declared.runs.Next.{Next}
use Rattle.job_step.specs.declared.runs.Next.TheVariants as next

abbrev pub frame_of : (procedure place : ℕ) → List ℤ → Frame
frame_of p k rs = record { procedure = p; place = k; registers = rs }

abbrev pub effect_of : (procedure : ℕ) → Next → List ℤ → Effect
effect_of p (next.Place k) rs = Moves (frame_of p k rs)
effect_of p next.DividesByZero rs = DividesByZero
effect_of p next.IsShared rs = IsShared

abbrev pub GoesWithin : ℕ → Next → Type 0
GoesWithin n (next.Place k) = k < n
GoesWithin n next.DividesByZero = Unit {0}
GoesWithin n next.IsShared = Unit {0}
