-- Which procedures an instruction names does not depend on registers.
use Rattle.std.specs.Prelude.{ℕ, List}
use Rattle.std.specs.List.{All}
use Rattle.job_language.specs.declared.instructions.Instr.{Instr}
use Rattle.job_language.specs.Program.{Calls}
use Rattle.source_language.specs.declared.syntax.Function.{Function}
use Rattle.job_compiler.specs.Code.{function_code}
use Rattle.job_compiler.specs.Refusals.{HasCode}

-- The function has code, and the instructions name no procedure beyond those that the code names.
pub record NamesTheSame (f : Function) (instrs : List Instr) : Type 0 where
  pub code : HasCode f
  pub calls : (procs : ℕ) → All (Calls procs) (function_code f) → All (Calls procs) instrs
