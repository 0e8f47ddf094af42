-- What a private run of a frame says of the function that the frame does the same as.
use Rattle.std.specs.Prelude.{◌≡◌, ℕ, zero, suc, ℤ, false, List, Option, Some, None, FitsSigned}
use Rattle.std.specs.Int.{w64}
use Rattle.job_language.specs.declared.instructions.Instr.{Instr}
use Rattle.job_step.specs.declared.frames.Frame.{Frame}
use Rattle.job_step.specs.declared.runs.Run.{Run}
use Rattle.job_step.specs.declared.runs.Stop.{Stop}
use Rattle.job_step.specs.declared.runs.Stop.TheVariants.{Shared, Yield, Fault}
use Rattle.source_language.specs.Meaning.{Operation, Point, Act, Goes, Divides, Does, act, answered}
use Rattle.job_compiler.specs.Operations.{operation_of, resumed}
use Rattle.job_compiler.specs.Traces.{is_return, DoesTheSame}

abbrev pub if_goes : (Point → Option Point) → Act → Option Point
if_goes next (Goes q) = next q
if_goes next a = None

-- where a function is after n steps, unless one of them stops
abbrev pub point_after : (slot width : ℕ) → Point → ℕ → Option Point
point_after slot width p zero = Some p
point_after slot width p (suc n) = if_goes (λ q. point_after slot width q n) (act slot width p)

-- The function reaches the same operation, and the frame goes on from it as the function does.
pub record Meets (procs : List (List Instr)) (slot width : ℕ) (p : Point) (end : Frame) (i : Instr) : Type 0 where
  pub point : Point
  pub steps : ℕ
  pub there : point_after slot width p steps ≡ Some point
  pub operation : Operation
  pub does : act slot width point ≡ Does operation
  pub same : operation_of i end ≡ Some operation
  pub goes_on : is_return operation ≡ false → (x y : ℤ) → FitsSigned w64 x → FitsSigned w64 y → DoesTheSame procs slot width (answered point x y) (resumed i x y end)

-- The function divides by 0.
pub record Fails (slot width : ℕ) (p : Point) : Type 0 where
  pub point : Point
  pub steps : ℕ
  pub there : point_after slot width p steps ≡ Some point
  pub divides : act slot width point ≡ Divides

abbrev pub StopFollows : (procs : List (List Instr)) (slot width : ℕ) (p : Point) (count : ℕ) (end : Frame) → Stop → Type 0
StopFollows procs slot width p count end (Shared i) = Meets procs slot width p end i
StopFollows procs slot width p count end Fault = Fails slot width p
StopFollows procs slot width p count end Yield = (count ≡ 1000) × DoesTheSame procs slot width p end

abbrev pub RunFollows : (procs : List (List Instr)) (slot width : ℕ) (p : Point) → Run → Type 0
RunFollows procs slot width p r = StopFollows procs slot width p r.count r.end r.stop
