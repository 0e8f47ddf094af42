-- What the log of a pass has to do with a history.
use Rattle.std.specs.Prelude.{ℕ, ◌≡◌, ◌↔◌, List, ◌∷◌, Option, Some, None, filter, MatchOption}
use Rattle.job_language.specs.declared.answers.Answer.{Answer}
use Rattle.job_language.specs.declared.answers.Answer.TheVariants as answer
use Rattle.job_language.specs.declared.answers.Came.{Came}
use Rattle.job_language.specs.declared.answers.Came.TheVariants as came
use Rattle.job_language.specs.declared.answers.Moved.{Moved}
use Rattle.job_language.specs.declared.answers.Moved.TheVariants as moved
use Rattle.job_language.specs.declared.steps.Entry.{Entry}
use Rattle.job_language.specs.declared.steps.Step.{Step}
use Rattle.job_language.specs.declared.steps.Step.TheVariants.{Arrive, Advance}
use Rattle.tenant_record.specs.Cell.{is_on}
use Rattle.tenant_record.specs.PassData.{log_of}
use Rattle.tenant_record.specs.declared.notes.Told.{Told}
use Rattle.tenant_record.specs.declared.notes.Told.TheVariants.{Arrived, Ran, Nested, Freed}

-- the entries of a slot, in order
abbrev pub entries_on : ℕ → List Entry → List Entry
entries_on slot history = filter (is_on slot) history

-- The log is exactly what the history has of the slot, in order.
abbrev pub IsLog : ℕ → List Entry → List Told → Type 0
IsLog slot history log = log_of slot log ≡ entries_on slot history

abbrev pub came_note : Came → Option Told
came_note (came.At row) = Some (Arrived row)
came_note c = None

abbrev pub move_note : Moved → Option Told
move_note moved.Ran = Some Ran
move_note (moved.Nested row) = Some (Nested row)
move_note moved.Freed = Some Freed
move_note m = None

-- what a pass notes of a step of its slot with that answer
abbrev pub note_of : Step → Answer → Option Told
note_of (Arrive slot) (answer.Came c) = came_note c
note_of (Advance slot) (answer.Moved m) = move_note m
note_of x a = None

-- What must be left of a log after an entry of the history, if the log can be that of the slot.
abbrev pub IsLeft : ℕ → Entry → List Told → Option (List Told) → Type 0
IsLeft slot e log r = MatchOption r ((es : List Entry) → IsLog slot (e ∷ es) log → ⊥) (λ rest. (es : List Entry) → IsLog slot (e ∷ es) log ↔ IsLog slot es rest)
