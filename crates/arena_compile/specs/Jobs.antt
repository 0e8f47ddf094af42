-- What the job of a source is, and why there is none.
use Rattle.std.specs.Prelude.{◌≡◌, ℕ, ℤ, List, map, length, IsSomeAnd, slice_get}
use Rattle.std.specs.List.{All}
use Rattle.serde_json.specs.Written.{compact_text}
use Rattle.job_language.specs.declared.instructions.Instr.{Instr}
use Rattle.job_language.specs.declared.jobs.Job.{Job}
use Rattle.job_language.specs.declared.jobs.TheConstants.{MAX_FUEL}
use Rattle.job_language.specs.Program.{Calls, IsValidProc}
use Rattle.job_json.specs.JobData.{job_data}
use Rattle.source_language.specs.declared.syntax.Function.{Function}
use Rattle.job_compiler.specs.declared.errors.Refusal.{Refusal}
use Rattle.job_compiler.specs.Code.{function_code}
use Rattle.job_compiler.specs.Programs.{HasCount, IsCompiledProgram}
use Rattle.job_compiler.specs.Refusals.{HasCode, IsRefused}
use Rattle.register_choice.specs.declared.compile.Crowd.{Crowd}
use Rattle.register_choice.specs.Reasons.{IsCrowded}
use Rattle.source_tokens.specs.Givens.{Givens}
use Rattle.source_reader.specs.declared.places.Place.{Place}
use Rattle.source_reader.specs.Trees.{function_tree_of}
use Rattle.source_reader.specs.Source.{Says, HasFault, function_place}
use Rattle.arena_compile.specs.declared.errors.CompileFault.{CompileFault}
use Rattle.arena_compile.specs.declared.errors.CompileFault.TheVariants.{Source, TooLong, Crowded, NoChoice, Count, NoProcedure}
use Rattle.arena_compile.specs.declared.errors.CompileError.{CompileError}
use Rattle.arena_compile.specs.declared.errors.CompileError.TheVariants.{Memory, Fault}

-- The text says functions of which the program is compiled. Its params have the numbers that they are given.
pub record IsProgramOf (gs : Givens) (text : List ℕ) (program : List (List Instr)) : Type 0 where
  pub functions : List Function
  pub said : Says gs text (map function_tree_of functions)
  pub compiled : IsCompiledProgram functions program

-- The job's program is one of the text, and the job has these arguments and all the fuel that it may have.
pub record IsJobOf (args : List ℤ) (gs : Givens) (text : List ℕ) (job : Job) : Type 0 where
  pub program : IsProgramOf gs text job.program
  pub given : job.args ≡ args
  pub fuel : job.fuel ≡ MAX_FUEL

-- The line is that job's, as the protocol has jobs.
pub record IsLineOf (args : List ℤ) (gs : Givens) (text line : List ℕ) : Type 0 where
  pub job : Job
  pub made : IsJobOf args gs text job
  pub written : line ≡ compact_text (job_data job)

-- The text says functions, and this is so of the one of that number, which begins at the place.
pub record IsFunctionAt (gs : Givens) (text : List ℕ) (number : ℕ) (place : Place) (P : Function → Type 0) : Type 0 where
  pub functions : List Function
  pub said : Says gs text (map function_tree_of functions)
  pub begins : place ≡ function_place text number
  pub has : IsSomeAnd (slice_get functions number) P

-- This is so of a function that begins at the place.
abbrev pub HasFunctionAt : (gs : Givens) (text : List ℕ) (place : Place) (P : Function → Type 0) → Type 0
HasFunctionAt gs text place P = (number : ℕ) × IsFunctionAt gs text number place P

-- The function's code is no procedure as it stands, since more of its virtual registers than a frame has are read later from the place on.
abbrev pub NeedsMore : Crowd → Function → Type 0
NeedsMore crowd f = HasCode f × (¬ IsValidProc (function_code f)) × IsCrowded (function_code f) crowd.place crowd.live

-- The text says too many functions, or none; the first one begins at the place.
pub record HasWrongCount (gs : Givens) (text : List ℕ) (place : Place) : Type 0 where
  pub functions : List Function
  pub said : Says gs text (map function_tree_of functions)
  pub begins : place ≡ function_place text 0
  pub count : ¬ HasCount functions

-- The text says functions, and the code of the one that begins at the place names one beyond them.
pub record NamesNoFunction (gs : Givens) (text : List ℕ) (place : Place) : Type 0 where
  pub functions : List Function
  pub said : Says gs text (map function_tree_of functions)
  pub number : ℕ
  pub begins : place ≡ function_place text number
  pub has : IsSomeAnd (slice_get functions number) (λ f. HasCode f × (¬ All (Calls (length functions)) (function_code f)))

abbrev pub IsFaultOf : Givens → List ℕ → CompileFault → Type 0
IsFaultOf gs text (Source fault) = HasFault gs text fault
IsFaultOf gs text (TooLong place) = HasFunctionAt gs text place (λ f. (r : Refusal) × IsRefused f r)
IsFaultOf gs text (Crowded c) = IsFunctionAt gs text c.number c.place (NeedsMore c.crowd)
IsFaultOf gs text (NoChoice place) = HasFunctionAt gs text place (λ f. HasCode f × (¬ IsValidProc (function_code f)))
IsFaultOf gs text (Count place) = HasWrongCount gs text place
IsFaultOf gs text (NoProcedure place) = NamesNoFunction gs text place

-- why a text makes no job
abbrev pub IsErrorOf : Givens → List ℕ → CompileError → Type 0
IsErrorOf gs text Memory = Unit {0}
IsErrorOf gs text (Fault fault) = IsFaultOf gs text fault
