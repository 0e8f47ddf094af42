-- Why a function has no procedure. Of two reasons, the first one is given.
use Rattle.std.specs.Prelude.{◌<◌, ◌≤◌, length}
use Rattle.job_language.specs.declared.programs.TheConstants.{MAX_INSTRS}
use Rattle.job_language.specs.Program.{IsValidProc}
use Rattle.source_language.specs.declared.syntax.Function.{Function}
use Rattle.job_compiler.specs.declared.errors.Refusal.{Refusal}
use Rattle.job_compiler.specs.declared.errors.Refusal.TheVariants.{NoFunction, TooManyValues, TooLong, TooManyRegisters}
use Rattle.job_compiler.specs.Code.{function_code}
use Rattle.job_compiler.specs.Compiled.{IsFunction}
use Rattle.job_compiler.specs.Registers.{FitsVirtualRegisters}

-- It has code over virtual registers that is no longer than a procedure.
pub record HasCode (f : Function) : Type 0 where
  pub function : IsFunction f
  pub values : FitsVirtualRegisters f
  pub short : length (function_code f) ≤ MAX_INSTRS

-- It is a function, and its code is a procedure.
pub record Compiles (f : Function) : Type 0 where
  pub function : IsFunction f
  pub valid : IsValidProc (function_code f)

abbrev pub IsRefused : Function → Refusal → Type 0
IsRefused f NoFunction = ¬ IsFunction f
IsRefused f TooManyValues = IsFunction f × (¬ FitsVirtualRegisters f)
IsRefused f TooLong = IsFunction f × FitsVirtualRegisters f × (MAX_INSTRS < length (function_code f))
IsRefused f TooManyRegisters = HasCode f × (¬ IsValidProc (function_code f))
