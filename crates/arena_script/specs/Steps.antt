-- What a line of a script asks a tenant to do, what that does, and the answer. It has exactly the members that are listed.
use Rattle.std.specs.Prelude.{ℕ, List, Option, Some, None, Result, Ok, Err, nat_lt, if◌then◌else◌, codes}
use Rattle.std.specs.Str.{bytes_eq}
use Rattle.serde_json.specs.Data.{Data}
use Rattle.serde_json.specs.Find.{get, as_str}
use Rattle.job_language.specs.declared.answers.Answer.{Answer}
use Rattle.job_language.specs.declared.answers.Answer.TheVariants.{Replied}
use Rattle.job_language.specs.declared.answers.Reply.TheVariants.{Refused}
use Rattle.job_language.specs.declared.errors.Error.{Error}
use Rattle.job_language.specs.declared.requests.Request.{Request}
use Rattle.job_language.specs.declared.steps.Step.TheVariants.{Ask, Arrive, Advance}
use Rattle.job_json.specs.Json.{◌>>=◌, get_as, whole, has_members}
use Rattle.tenant_model.specs.Solo.{step}
use Rattle.tenant_model.specs.State.{State}
use Rattle.dump_lines.specs.Requests.{request_in}

-- a slot that the tenant has
abbrev pub slot_of : State → Data → Option ℕ
slot_of s d = get (codes "slot") d >>= whole >>= λ slot. if nat_lt slot s.config.slots then Some slot else None

-- an ask, whose request may be refused before the tenant sees it
abbrev pub asked : State → Result Request Error → Answer × State
asked s (Ok request) = step s (Ask request)
asked s (Err error) = (Replied (Refused error), s)

-- the answer to a step of that name, and the tenant after it; none if the tenant has no such step
abbrev pub step_taken : State → List ℕ → Data → Option (Answer × State)
step_taken s name d =
    if bytes_eq name (codes "ask") then (get (codes "request") d >>= λ request. Some (asked s (request_in request)))
    else if bytes_eq name (codes "arrive") then (slot_of s d >>= λ slot. Some (step s (Arrive slot)))
    else if bytes_eq name (codes "advance") then (slot_of s d >>= λ slot. Some (step s (Advance slot)))
    else None

-- the same of the step that a value spells
abbrev pub value_taken : State → Data → Option (Answer × State)
value_taken s d = if has_members 2 d then (get_as (codes "step") as_str d >>= λ name. step_taken s name d) else None
