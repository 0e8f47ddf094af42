-- The value of a source: what the functions that its text says give serially; and that a complete job has it.
use Rattle.std.specs.Prelude.{◌≡◌, ℕ, ℤ, pos, true, List, ◌∷◌, ◌++◌, Option, Some, None, map, slice_index_or, FitsSigned}
use Rattle.std.specs.Int.{w64}
use Rattle.job_language.specs.Brought.{job_of}
use Rattle.job_language.specs.Serial.{is_serial}
use Rattle.job_language.specs.declared.answers.Reply.TheVariants as reply
use Rattle.job_language.specs.declared.answers.Status.TheVariants.{Complete}
use Rattle.job_language.specs.declared.instructions.Instr.{Instr}
use Rattle.job_language.specs.declared.jobs.Job.{Job}
use Rattle.job_language.specs.declared.requests.Request.{Request}
use Rattle.job_language.specs.declared.requests.Request.TheVariants.{Poll, Collect, Take}
use Rattle.job_language.specs.declared.steps.Step.{Step}
use Rattle.job_language.specs.declared.steps.Step.TheVariants.{Ask}
use Rattle.tenant_model.specs.State.{State}
use Rattle.tenant_model.specs.Asks.{ask}
use Rattle.tenant_model.specs.Serial.{serial_value}
use Rattle.tenant_model.specs.Solo.{after}
use Rattle.serial_law.specs.SerialValues.{number_made}
use Rattle.source_language.specs.declared.syntax.Function.{Function}
use Rattle.source_tokens.specs.Givens.{Givens}
use Rattle.source_reader.specs.Source.{Says}
use Rattle.source_reader.specs.Trees.{function_tree_of}
use Rattle.source_serial.specs.SourceSerial.{source_value}
use Rattle.arena_compile.specs.Jobs.{IsProgramOf}

-- The text says functions, and this is the value of the first one, with these arguments. Its params have the numbers that they are given.
pub record HasValue (gs : Givens) (text : List ℕ) (args : List ℤ) (value : ℤ) : Type 0 where
  pub functions : List Function
  pub said : Says gs text (map function_tree_of functions)
  pub steps : ℕ
  pub gives : source_value functions args steps ≡ Some value

-- It is the serial value of a program that is compiled from the text, within so many instructions.
pub record IsSerialValueOf (gs : Givens) (text : List ℕ) (args : List ℤ) (most : ℕ) (value : Option ℤ) : Type 0 where
  pub program : List (List Instr)
  pub made : IsProgramOf gs text program
  pub serial : is_serial program ≡ true
  pub is : value ≡ serial_value program args most

abbrev pub AreNumbers : List ℤ → Type 0
AreNumbers args = (k : ℕ) → FitsSigned w64 (slice_index_or args k (pos 0))

-- the job whose outcome is asked
abbrev pub outcome_asked : Request → Option ℕ
outcome_asked (Poll j) = Some j
outcome_asked (Collect j) = Some j
outcome_asked (Take j) = Some j
outcome_asked r = None

-- At each moment of a run: if an ask brought a serial job whose program is compiled from a text, and the reply to another one says that this job is complete, the value is the text's.
abbrev pub KeepsTextValues : State → List Step → Type 0
KeepsTextValues s xs =
    (ys zs ws : List Step) (r q : Request) (b : Job) (j : ℕ) (v : ℤ) (gs : Givens) (text : List ℕ) → xs ≡ ys ++ Ask r ∷ zs ++ Ask q ∷ ws → job_of r ≡ Some b → IsProgramOf gs text b.program
    → AreNumbers b.args → is_serial b.program ≡ true → number_made (ask (after s ys) r).0 ≡ Some j → outcome_asked q ≡ Some j
    → (ask (after s (ys ++ Ask r ∷ zs)) q).0 ≡ reply.Job j (Complete v) → HasValue gs text b.args v
