-- A program that is compiled function by function.
use Rattle.std.specs.Prelude.{◌≡◌, ℕ, ◌<◌, ◌≤◌, List, [], MatchOption, IsSomeAnd, slice_get, slice_index_or, length, take}
use Rattle.std.specs.List.{All}
use Rattle.job_language.specs.declared.instructions.Instr.{Instr}
use Rattle.job_language.specs.declared.programs.TheConstants.{MAX_PROCS}
use Rattle.job_language.specs.Program.{Calls, IsValidProgram}
use Rattle.source_language.specs.declared.syntax.Function.{Function}
use Rattle.job_compiler.specs.declared.errors.ProgramError.{ProgramError}
use Rattle.job_compiler.specs.declared.errors.ProgramError.TheVariants.{NoMemory, Count, Refused, NoProcedure}
use Rattle.job_compiler.specs.Code.{function_code}
use Rattle.job_compiler.specs.Compiled.{IsCompiled}
use Rattle.job_compiler.specs.Refusals.{Compiles, IsRefused}

-- Each procedure is compiled from the function of the same number, and there are no others.
pub record IsCompiledProgram (fs : List Function) (procs : List (List Instr)) : Type 0 where
  pub each : (p : ℕ) → MatchOption (slice_get fs p) (slice_index_or procs p [] ≡ []) (λ f. IsCompiled f (slice_index_or procs p []))
  pub valid : IsValidProgram procs

-- A program has one procedure or more, but not too many.
abbrev pub HasCount : List Function → Type 0
HasCount fs = (0 < length fs) × (length fs ≤ MAX_PROCS)

-- A function compiles, and each procedure that it names is there, in a program of so many.
pub record FitsProgram (procs : ℕ) (f : Function) : Type 0 where
  pub compiles : Compiles f
  pub calls : All (Calls procs) (function_code f)

-- The functions make a program.
pub record MakeProgram (fs : List Function) : Type 0 where
  pub count : HasCount fs
  pub each : All (FitsProgram (length fs)) fs

-- why they make none: by the first function that does not fit
abbrev pub IsRefusedProgram : List Function → ProgramError → Type 0
IsRefusedProgram fs NoMemory = Unit {0}
IsRefusedProgram fs Count = ¬ HasCount fs
IsRefusedProgram fs (Refused k r) = HasCount fs × All (FitsProgram (length fs)) (take k fs) × IsSomeAnd (slice_get fs k) (λ f. IsRefused f r)
IsRefusedProgram fs (NoProcedure k) =
    HasCount fs × All (FitsProgram (length fs)) (take k fs) × IsSomeAnd (slice_get fs k) (λ f. Compiles f × (¬ All (Calls (length fs)) (function_code f)))

-- what is wrong with one of them
abbrev pub IsWrong : (procs : ℕ) → Function → (number : ℕ) → ProgramError → Type 0
IsWrong n f k NoMemory = ⊥
IsWrong n f k Count = ⊥
IsWrong n f k (Refused j r) = (j ≡ k) × IsRefused f r
IsWrong n f k (NoProcedure j) = (j ≡ k) × Compiles f × (¬ All (Calls n) (function_code f))
