-- The lines of a script that are not blank, and which of them is read next.
use Rattle.std.specs.Prelude.{◌≡◌, ◌<◌, ◌⊎◌, ℕ, List, [], ◌∷◌, Bool, true, not, filter, Option, Some, None, unwrap_or, Result, Ok, Err}
use Rattle.std.specs.List.{list_all}
use Rattle.job_language.specs.declared.tenants.Tenant.{Tenant}
use Rattle.job_json.specs.Json.{◌>>=◌}
use Rattle.request_reader.specs.Blank.{is_blank_byte}
use Rattle.request_reader.specs.LineAsks.{IsText}
use Rattle.request_reader.specs.Lines.{Line, whole, too_long, lines_of}
use Rattle.request_reader.specs.Reading.{Reading, IsPending, lines_left}
use Rattle.dump_lines.specs.Requests.{tenant_in}
use Rattle.arena_script.specs.declared.inputs.TheConstants.{MAX_SCRIPT_LINE}
use Rattle.arena_script.specs.declared.inputs.Input.{Input}
use Rattle.arena_script.specs.declared.inputs.Input.TheVariants as input
use Rattle.arena_script.specs.declared.inputs.ScriptLine.{ScriptLine}
use Rattle.arena_script.specs.declared.inputs.ScriptLine.TheVariants as lent

abbrev pub is_filled : Line → Bool
is_filled (whole text) = not (list_all is_blank_byte text)
is_filled too_long = true

-- the lines that are not blank of what is held and the bytes to come
abbrev pub script_lines : Reading → Option (List ℕ) → List Line
script_lines r known = filter is_filled (lines_left r (unwrap_or known []))

-- the lines of all the bytes
abbrev pub lines_in : Option (List ℕ) → List Line
lines_in known = lines_of MAX_SCRIPT_LINE (unwrap_or known [])

-- those that are not blank
abbrev pub all_lines : Option (List ℕ) → List Line
all_lines known = filter is_filled (lines_in known)

-- the text of a line that is not too long
abbrev pub text_in : Line → Option (List ℕ)
text_in (whole text) = Some text
text_in too_long = None

-- the tenant that the first line names
abbrev pub first_tenant : List Line → Option Tenant
first_tenant [] = None
first_tenant (line ∷ lines) = text_in line >>= tenant_in

-- the line that is lent
abbrev pub line_seen : ScriptLine → Line
line_seen (lent.Whole text) = whole text.now
line_seen lent.TooLong = too_long

-- a text: only such a line takes memory
abbrev pub IsTextLine : Line → Type 0
IsTextLine (whole text) = IsText text
IsTextLine too_long = ⊥

abbrev pub input_lines : Input → List ℕ → List Line
input_lines input.Line text = whole text ∷ []
input_lines input.TooLong text = too_long ∷ []
input_lines input.End text = []

abbrev pub lines_read : {E : Type 0} → Result Input E → List ℕ → List Line
lines_read (Ok i) text = input_lines i text
lines_read (Err e) text = []

-- The reader of bytes failed, or may not be called again: no whole line is held, and none was read last.
pub record WasLost (old new : Reading) : Type 0 where
  pub pending : IsPending new
  pub called : (new.turns < old.turns) ⊎ (new.turns ≡ 0)
