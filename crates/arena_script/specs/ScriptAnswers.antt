-- The bytes that answer the lines of a script of one tenant's steps.
use Rattle.std.specs.Prelude.{ℕ, List, [], ◌∷◌, ◌++◌, drop, Option, Some, None, codes}
use Rattle.std.specs.Option.{option_map_or}
use Rattle.job_language.specs.declared.answers.Answer.{Answer}
use Rattle.job_language.specs.declared.tenants.Tenant.{Tenant}
use Rattle.job_json.specs.Json.{◌>>=◌}
use Rattle.request_reader.specs.LineAsks.{value_in}
use Rattle.request_reader.specs.Lines.{Line, newline}
use Rattle.reply_writer.specs.AnswerText.{answer_text}
use Rattle.tenant_model.specs.State.{State, empty}
use Rattle.arena_script.specs.ScriptLines.{first_tenant, text_in}
use Rattle.arena_script.specs.Steps.{value_taken}

-- the answer to a line that is a step, and the tenant after it
abbrev pub line_taken : State → Line → Option (Answer × State)
line_taken s line = text_in line >>= λ text. value_in text >>= value_taken s

-- the text of the answer; what is no step has one too, and changes nothing
abbrev pub told : State → Option (Answer × State) → List ℕ × State
told s (Some taken) = (answer_text taken.0, taken.1)
told s None = (codes "{\"moved\":\"bad_step\"}", s)

-- the lines that answer these lines, in order
abbrev pub own_answers : State → List Line → List ℕ
own_answers s [] = []
own_answers s (line ∷ lines) = let said = told s (line_taken s line) in said.0 ++ newline ∷ own_answers said.1 lines

-- The first line is a tenant, and the others are its steps. Without a tenant there is no answer.
abbrev pub own_text : List Line → List ℕ
own_text lines = option_map_or (λ (c : Tenant). own_answers (empty c) (drop 1 lines)) (first_tenant lines) []
