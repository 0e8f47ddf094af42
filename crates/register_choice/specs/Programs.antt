-- Why functions whose registers are chosen make no program.
use Rattle.std.specs.Prelude.{◌≡◌, ℕ, List, IsSomeAnd, slice_get, length}
use Rattle.std.specs.List.{All}
use Rattle.job_language.specs.Program.{Calls}
use Rattle.source_language.specs.declared.syntax.Function.{Function}
use Rattle.job_compiler.specs.Code.{function_code}
use Rattle.job_compiler.specs.Refusals.{HasCode}
use Rattle.job_compiler.specs.Programs.{HasCount}
use Rattle.register_choice.specs.declared.programs.ChoiceProgramError.{ChoiceProgramError}
use Rattle.register_choice.specs.declared.programs.ChoiceProgramError.TheVariants.{NoMemory, Count, Refused, NoProcedure}
use Rattle.register_choice.specs.Refusals.{IsWithoutChoice}

-- what is wrong with one of them
abbrev pub IsWrong : (procs : ℕ) → Function → (number : ℕ) → ChoiceProgramError → Type 0
IsWrong n f k NoMemory = Unit {0}
IsWrong n f k Count = ⊥
IsWrong n f k (Refused j r) = (j ≡ k) × IsWithoutChoice f r
IsWrong n f k (NoProcedure j) = (j ≡ k) × HasCode f × (¬ All (Calls n) (function_code f))

-- by a function that does not fit
abbrev pub IsNoProgram : List Function → ChoiceProgramError → Type 0
IsNoProgram fs NoMemory = Unit {0}
IsNoProgram fs Count = ¬ HasCount fs
IsNoProgram fs (Refused k r) = IsSomeAnd (slice_get fs k) (λ f. IsWithoutChoice f r)
IsNoProgram fs (NoProcedure k) = IsSomeAnd (slice_get fs k) (λ f. HasCode f × (¬ All (Calls (length fs)) (function_code f)))
