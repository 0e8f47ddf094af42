-- What an arena gave for a step, and when a step may take memory.
use Rattle.std.specs.Prelude.{List, ℕ, Option, Some, None, if◌then◌else◌, codes}
use Rattle.std.specs.Str.{bytes_eq}
use Rattle.serde_json.specs.Data.{Data}
use Rattle.serde_json.specs.Find.{get, as_str}
use Rattle.job_language.specs.declared.answers.Answer.{Answer}
use Rattle.job_json.specs.Json.{◌>>=◌, get_as, has_members}
use Rattle.request_reader.specs.Answers.{HasJob}
use Rattle.request_reader.specs.Asks.{asked_by_value}
use Rattle.reply_writer.specs.AnswerText.{answer_text}
use Rattle.tenant_model.specs.State.{State}

-- what is no step has no answer, and changes nothing
abbrev pub or_none : State → Option (Answer × State) → Option Answer × State
or_none s (Some taken) = (Some taken.0, taken.1)
or_none s None = (None, s)

abbrev pub answer_told : Option Answer → List ℕ
answer_told (Some answer) = answer_text answer
answer_told None = codes "{\"moved\":\"bad_step\"}"

-- the request of a step of that name
abbrev pub request_of : List ℕ → Data → Option Data
request_of name d = if bytes_eq name (codes "ask") then get (codes "request") d else None

-- The step brings a job: no other takes memory.
abbrev pub StepTakesMemory : List ℕ → Data → Type 0
StepTakesMemory name d = HasJob (request_of name d >>= asked_by_value)

abbrev pub ValueTakesMemory : Data → Type 0
ValueTakesMemory d = HasJob (if has_members 2 d then (get_as (codes "step") as_str d >>= λ name. request_of name d >>= asked_by_value) else None)
