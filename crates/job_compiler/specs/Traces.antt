-- What a function of the source does, and what a frame does, with the same answers to their operations; and when that is the same.
use Rattle.std.specs.Prelude.{◌≡◌, ℕ, zero, suc, ℤ, Bool, true, false, if◌then◌else◌, List, [], ◌∷◌, Option, Some, None, FitsSigned}
use Rattle.std.specs.Int.{w64}
use Rattle.std.specs.List.{AllByRecursion}
use Rattle.std.specs.Option.{option_map}
use Rattle.job_language.specs.declared.instructions.Instr.{Instr}
use Rattle.job_step.specs.declared.frames.Frame.{Frame}
use Rattle.job_step.specs.declared.effects.Effect.{Effect}
use Rattle.job_step.specs.declared.effects.Effect.TheVariants.{Moves, DividesByZero, IsShared}
use Rattle.job_step.specs.Frame.{instr_at}
use Rattle.job_step.specs.Run.{effect_at}
use Rattle.source_language.specs.Meaning.{Operation, Returns, Point, Act, Goes, Divides, Does, act, answered}
use Rattle.job_compiler.specs.Operations.{operation_of, resumed}

pub data Event : Type 0 where
  Did : Operation → Event
  Divided : Event
  -- a frame that is at no instruction
  Lost : Event

-- A return is the last operation.
abbrev pub is_return : Operation → Bool
is_return (Returns v) = true
is_return o = false

-- an operation, and what follows it if it is answered
abbrev pub events_after : Operation → (answers : List (ℤ × ℤ)) → ((ℤ × ℤ) → List (ℤ × ℤ) → Option (List Event)) → Option (List Event)
events_after o [] next = Some (Did o ∷ [])
events_after o (a ∷ answers) next = if is_return o then Some (Did o ∷ []) else option_map (λ events. Did o ∷ events) (next a answers)

abbrev pub Events : Type 0 → Type 0
Events S = S → (answers : List (ℤ × ℤ)) → Option (List Event)

abbrev pub source_by : Events Point → Point → Act → List (ℤ × ℤ) → Option (List Event)
source_by next p (Goes q) answers = next q answers
source_by next p Divides answers = Some (Divided ∷ [])
source_by next p (Does o) answers = events_after o answers (λ a rest. next (answered p a.0 a.1) rest)

-- what a function does from a point, up to the first operation without an answer, if n steps suffice
abbrev pub source_events : (slot width n : ℕ) → Events Point
source_events slot width zero p answers = None
source_events slot width (suc n) p answers = source_by (source_events slot width n) p (act slot width p) answers

abbrev pub frame_stops : Events Frame → Frame → Option Operation → (Frame → ℤ → ℤ → Frame) → List (ℤ × ℤ) → Option (List Event)
frame_stops next f None resume answers = Some (Lost ∷ [])
frame_stops next f (Some o) resume answers = events_after o answers (λ a rest. next (resume f a.0 a.1) rest)

abbrev pub frame_at : Events Frame → Frame → Option Instr → List (ℤ × ℤ) → Option (List Event)
frame_at next f None answers = Some (Lost ∷ [])
frame_at next f (Some i) answers = frame_stops next f (operation_of i f) (λ g x y. resumed i x y g) answers

abbrev pub frame_by : Events Frame → Frame → Effect → Option Instr → List (ℤ × ℤ) → Option (List Event)
frame_by next f (Moves g) i answers = next g answers
frame_by next f DividesByZero i answers = Some (Divided ∷ [])
frame_by next f IsShared i answers = frame_at next f i answers

-- the same of a frame
abbrev pub frame_events : (procs : List (List Instr)) (slot width n : ℕ) → Events Frame
frame_events procs slot width zero f answers = None
frame_events procs slot width (suc n) f answers = frame_by (frame_events procs slot width n) f (effect_at (instr_at procs f) slot width f) (instr_at procs f) answers

abbrev pub AreAnswers : List (ℤ × ℤ) → Type 0
AreAnswers answers = AllByRecursion (λ (a : ℤ × ℤ). FitsSigned w64 a.0 × FitsSigned w64 a.1) answers

-- With whatever answers, the frame does the same operations as the function, with the same numbers and in the same order. It divides by 0, and goes on for ever, exactly where the function does.
pub record DoesTheSame (procs : List (List Instr)) (slot width : ℕ) (p : Point) (f : Frame) : Type 0 where
  pub forth : (answers : List (ℤ × ℤ)) → AreAnswers answers → (n : ℕ) (events : List Event) → source_events slot width n p answers ≡ Some events
      → (m : ℕ) × (frame_events procs slot width m f answers ≡ Some events)
  pub back : (answers : List (ℤ × ℤ)) → AreAnswers answers → (m : ℕ) (events : List Event) → frame_events procs slot width m f answers ≡ Some events
      → (n : ℕ) × (source_events slot width n p answers ≡ Some events)
