-- The value of a serial job whose program is compiled.
use Rattle.std.specs.Prelude.{◌≡◌, ℕ, ℤ, pos, true, List, ◌∷◌, ◌++◌, Some, slice_index_or, FitsSigned}
use Rattle.std.specs.Int.{w64}
use Rattle.source_language.specs.declared.syntax.Function.{Function}
use Rattle.job_compiler.specs.Programs.{IsCompiledProgram}
use Rattle.job_language.specs.Brought.{job_of}
use Rattle.job_language.specs.Program.{IsValidProgram}
use Rattle.job_language.specs.Serial.{is_serial}
use Rattle.job_language.specs.declared.answers.Status.TheVariants.{Complete}
use Rattle.job_language.specs.declared.jobs.Job.{Job}
use Rattle.job_language.specs.declared.requests.Request.{Request}
use Rattle.job_language.specs.declared.steps.Step.{Step}
use Rattle.job_language.specs.declared.steps.Step.TheVariants.{Ask}
use Rattle.tenant_model.specs.State.{State, job}
use Rattle.tenant_model.specs.Asks.{ask, status}
use Rattle.tenant_model.specs.Solo.{after}
use Rattle.serial_law.specs.SerialValues.{number_made}
use Rattle.source_serial.specs.SourceSerial.{source_value}

-- At each moment of a run: a serial job that an ask of the run brought, whose program is compiled, and that is complete, has the value of its source.
abbrev pub KeepsSourceValues : State → List Step → Type 0
KeepsSourceValues s xs =
    (ys zs ws : List Step) (r : Request) (b : Job) (j : ℕ) (v : ℤ) (fs : List Function) → xs ≡ ys ++ Ask r ∷ zs ++ ws → job_of r ≡ Some b → IsValidProgram b.program
    → number_made (ask (after s ys) r).0 ≡ Some j → is_serial b.program ≡ true
    → status (after s (ys ++ Ask r ∷ zs)).rows j (job (after s (ys ++ Ask r ∷ zs)).jobs j) ≡ Complete v
    → IsCompiledProgram fs b.program → ((k : ℕ) → FitsSigned w64 (slice_index_or b.args k (pos 0))) → (n : ℕ) × (source_value fs b.args n ≡ Some v)
