-- When a procedure is that of a function which was changed.
use Rattle.std.specs.Prelude.{ℕ, List, Option, Some, None}
use Rattle.std.specs.List.{All}
use Rattle.job_language.specs.declared.instructions.Instr.{Instr}
use Rattle.job_language.specs.Program.{Calls, IsValidProc}
use Rattle.source_language.specs.declared.syntax.Function.{Function}
use Rattle.job_compiler.specs.Compiled.{IsFunction, IsCompiled}

-- The procedure is that of the changed function, and whatever is compiled from this one is compiled from the first.
pub record IsOfChanged (procs : ℕ) (f f' : Function) (proc : List Instr) : Type 0 where
  pub function : IsFunction f'
  pub back : (instrs : List Instr) → IsCompiled f' instrs → IsCompiled f instrs
  pub compiled : IsCompiled f' proc
  pub valid : IsValidProc proc
  pub calls : All (Calls procs) proc

abbrev pub IsBetter : (procs : ℕ) (f f' : Function) → Option (List Instr) → Type 0
IsBetter procs f f' None = Unit {0}
IsBetter procs f f' (Some proc) = IsOfChanged procs f f' proc
