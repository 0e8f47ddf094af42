-- The outcomes of a term's jobs in a file.
use Rattle.std.specs.Prelude.{◌≡◌, ℕ, ◌<◌, ◌^◌, ◌==◌, Bool, not, All, List, [], ◌∷◌, ◌++◌, Option, Some, IfSome, FitsSigned, codes, decimal}
use Rattle.std.specs.Fmt.{signed_decimal}
use Rattle.std.specs.List.{AllZip, filter_map, flat_map, list_any}
use Rattle.job_language.specs.ErrorCodes.{fault_code_of}
use Rattle.job_language.specs.declared.answers.Reply.TheVariants.{Job}
use Rattle.job_language.specs.declared.answers.Status.{Status}
use Rattle.job_language.specs.declared.answers.Status.TheVariants.{Cancelled, Complete, Fault, Running}
use Rattle.job_language.specs.declared.errors.JobFault.{JobFault}
use Rattle.reply_writer.specs.ReplyText.{reply_text}
use Rattle.request_reader.specs.Lines.{newline}
use Rattle.term_life.specs.declared.outcomes.Outcome.{Outcome}
use Rattle.host_folder.specs.declared.forgotten.Forgotten.{Forgotten}
use mir.Syntax.{w64}

-- the line of an outcome, without its end: what a poll of the job is answered
abbrev pub outcome_line : Outcome → List ℕ
outcome_line o = reply_text (Job o.job o.status)

-- the lines of some outcomes, each with its end
abbrev pub outcome_lines : List Outcome → List ℕ
outcome_lines os = flat_map (λ o. outcome_line o ++ newline ∷ []) os

abbrev pub comma : ℕ
comma = 44

-- A value of 64 bits, if it has one.
abbrev pub HasValueInRange : Status → Type 0
HasValueInRange (Complete value) = FitsSigned w64 value
HasValueInRange s = Unit {0}

abbrev pub HasNoFault : Status → Type 0
HasNoFault (Fault fault) = ⊥
HasNoFault s = Unit {0}

-- The numbers are those of 64 bits, as each outcome's in the program are.
abbrev pub IsInRange : Outcome → Type 0
IsInRange o = (o.job < 2 ^ 64) × HasValueInRange o.status

-- If the line is that of some outcome, it is this one.
abbrev pub FindsOutcome : (line : List ℕ) → Option Outcome → Type 0
FindsOutcome line r = (o : Outcome) → IsInRange o → outcome_line o ≡ line → r ≡ Some o

-- the outcome whose line it is, if it is the line of one
pub record IsOutcomeOf (line : List ℕ) (r : Option Outcome) : Type 0 where
  pub said : IfSome r (λ o. outcome_line o ≡ line)
  pub found : FindsOutcome line r

-- the outcomes of some lines, in their order; a line of none is passed over
pub record AreOutcomesOf (lines : List (List ℕ)) (os : List Outcome) : Type 0 where
  pub each : List (Option Outcome)
  pub one : AllZip IsOutcomeOf lines each
  pub these : os ≡ filter_map (λ r. r) each

-- If the text has the lines of some outcomes, they are these.
abbrev pub AreReadAgain : (text : List ℕ) → List Outcome → Type 0
AreReadAgain text read = (os : List Outcome) → All IsInRange os → text ≡ outcome_lines os → read ≡ os

-- what stands in a line behind the number of the job and its comma
abbrev pub status_part : Status → List ℕ
status_part Running = codes "\"status\":\"running\"}"
status_part Cancelled = codes "\"status\":\"canceled\"}"
status_part (Complete value) = codes "\"status\":\"complete\",\"value\":" ++ (signed_decimal value ++ codes "}")
status_part (Fault fault) = codes "\"status\":\"fault\"}"

-- what stands behind the first word of a line that says a fault
abbrev pub fault_part : JobFault → (job : ℕ) → List ℕ
fault_part fault job = decimal (fault_code_of fault) ++ (comma ∷ codes "\"job\":" ++ (decimal job ++ (comma ∷ status_part (Fault fault))))

-- It is not noted that the job was released.
abbrev pub is_kept : Forgotten → Outcome → Bool
is_kept f o = not (list_any (λ job. job == o.job) f.released.items)
