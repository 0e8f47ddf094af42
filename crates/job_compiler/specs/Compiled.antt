-- When a list of instructions is a function's code.
use Rattle.std.specs.Prelude.{◌≡◌, ℕ, ◌<◌, ◌≤◌, ◌^◌, ℤ, List, [], slice_index_or, FitsSigned}
use Rattle.std.specs.Int.{w64}
use Rattle.job_language.specs.declared.instructions.Instr.{Instr}
use Rattle.job_step.specs.Frame.{new_frame}
use Rattle.source_language.specs.declared.syntax.Function.{Function}
use Rattle.source_language.specs.Meaning.{start}
use Rattle.job_compiler.specs.Within.{IsStmtWithin}
use Rattle.job_compiler.specs.Traces.{DoesTheSame}

-- Its variables, of which the first two are its parameters, are numbered from 0, and its numbers are of 64 bits.
pub record IsFunction (f : Function) : Type 0 where
  pub parameters : 2 ≤ f.variables
  pub within : IsStmtWithin f.variables f.body

-- Whichever procedure of a program it is, and wherever it runs, a new frame with two arguments does what the function does with them.
abbrev pub IsCompiled : Function → List Instr → Type 0
IsCompiled f instrs =
    (procs : List (List Instr)) (p slot width : ℕ) (x y : ℤ) → slice_index_or procs p [] ≡ instrs → slot < 2 ^ 8 → width < 2 ^ 8 → FitsSigned w64 x → FitsSigned w64 y
    → DoesTheSame procs slot width (start f x y) (new_frame p x y)
