-- When a frame does what a task of the source does: a function that was started with two numbers, and whose operations were answered.
use Rattle.std.specs.Prelude.{◌≡◌, ℕ, ◌<◌, ◌^◌, ℤ, false, List, [], ◌∷◌, ◌++◌, Some, slice_get, FitsSigned}
use Rattle.std.specs.Int.{w64}
use Rattle.job_language.specs.declared.instructions.Instr.{Instr}
use Rattle.job_step.specs.declared.frames.Frame.{Frame}
use Rattle.job_step.specs.Frame.{new_frame}
use Rattle.source_language.specs.declared.syntax.Function.{Function}
use Rattle.source_language.specs.Meaning.{Operation, Returns, Point, Does, act, answered, start}
use Rattle.job_compiler.specs.Traces.{is_return, DoesTheSame}
use Rattle.job_compiler.specs.Runs.{point_after}

-- an operation with the two numbers that answer it, of which most operations use one or none
pub record Answer : Type 0 where
  pub operation : Operation
  pub first : ℤ
  pub second : ℤ

-- From point p a function comes to the operation, and goes on from point q with the answer.
pub record DoesOne (slot width : ℕ) (p : Point) (a : Answer) (q : Point) : Type 0 where
  pub point : Point
  pub steps : ℕ
  pub there : point_after slot width p steps ≡ Some point
  pub does : act slot width point ≡ Does a.operation
  pub not_last : is_return a.operation ≡ false
  pub fit : FitsSigned w64 a.first × FitsSigned w64 a.second
  pub next : q ≡ answered point a.first a.second

-- The operations of a function from point p on are these, in this order, and with their answers it comes to point q.
abbrev pub DoesAll : (slot width : ℕ) → Point → List Answer → Point → Type 0
DoesAll slot width p [] q = q ≡ p
DoesAll slot width p (a ∷ answers) q = (m : Point) × DoesOne slot width p a m × DoesAll slot width m answers q

-- What a row has been through: the frame with which it was made, and its operations that were answered.
pub record Past : Type 0 where
  pub new : Frame
  pub answers : List Answer

abbrev pub new_past : Frame → Past
new_past f = record { new = f; answers = [] }

abbrev pub with_answer : Past → Answer → Past
with_answer p a = record p { answers = p.answers ++ a ∷ [] }

-- On a slot, the task of a row has come to a point: its function is that of the procedure of the row's frame, and begins with the two numbers of its first frame.
pub record HasCome (fs : List Function) (slot width : ℕ) (f : Frame) (past : Past) (point : Point) : Type 0 where
  pub function : Function
  pub named : slice_get fs f.procedure ≡ Some function
  pub first : ℤ
  pub second : ℤ
  pub fit : FitsSigned w64 first × FitsSigned w64 second
  pub made : past.new ≡ new_frame f.procedure first second
  pub come : DoesAll slot width (start function first second) past.answers point

-- The frame does what its task does from there on.
pub record DoesTask (fs : List Function) (procs : List (List Instr)) (slot width : ℕ) (f : Frame) (past : Past) : Type 0 where
  pub point : Point
  pub task : HasCome fs slot width f past point
  pub same : DoesTheSame procs slot width point f

-- On one of the slots, the next operation of the task is the return of a value.
pub record ReturnsTask (fs : List Function) (width : ℕ) (f : Frame) (past : Past) (v : ℤ) : Type 0 where
  pub slot : ℕ
  pub low : slot < width
  pub point : Point
  pub task : HasCome fs slot width f past point
  pub steps : ℕ
  pub last : Point
  pub there : point_after slot width point steps ≡ Some last
  pub returns : act slot width last ≡ Does (Returns v)

-- The frame is new, with two numbers, and does what its procedure's function does with them, on whatever slot.
pub record BeginsTask (fs : List Function) (procs : List (List Instr)) (width : ℕ) (f : Frame) : Type 0 where
  pub function : Function
  pub named : slice_get fs f.procedure ≡ Some function
  pub first : ℤ
  pub second : ℤ
  pub fit : FitsSigned w64 first × FitsSigned w64 second
  pub new : f ≡ new_frame f.procedure first second
  pub same : (slot : ℕ) → slot < 2 ^ 8 → DoesTheSame procs slot width (start function first second) f
