-- Why a source is not run.
use Rattle.std.specs.Prelude.{◌≡◌, ℕ, false, List}
use Rattle.job_language.specs.Serial.{is_serial}
use Rattle.job_language.specs.declared.instructions.Instr.{Instr}
use Rattle.source_tokens.specs.Givens.{Givens}
use Rattle.arena_compile.specs.declared.errors.CompileError.TheVariants.{Fault}
use Rattle.arena_compile.specs.Jobs.{IsProgramOf, IsErrorOf}
use Rattle.source_value.specs.declared.errors.SourceError.{SourceError}
use Rattle.source_value.specs.declared.errors.SourceError.TheVariants as error

-- A program that is compiled from the text is not serial.
pub record IsNotSerial (gs : Givens) (text : List ℕ) : Type 0 where
  pub program : List (List Instr)
  pub made : IsProgramOf gs text program
  pub asks : is_serial program ≡ false

abbrev pub IsNotRun : Givens → List ℕ → SourceError → Type 0
IsNotRun gs text error.Memory = Unit {0}
IsNotRun gs text (error.Fault fault) = IsErrorOf gs text (Fault fault)
IsNotRun gs text error.NotSerial = IsNotSerial gs text
