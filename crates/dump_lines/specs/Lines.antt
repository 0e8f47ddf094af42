-- What a line of a dump says of its tenant's history. It has exactly the members that are listed.
use Rattle.std.specs.Prelude.{◌≡◌, ℕ, ◌&&◌, if◌then◌else◌, List, Option, Some, None, Result, Ok, option_map, codes}
use Rattle.std.specs.Option.{option_map_or}
use Rattle.std.specs.Result.{result_ok}
use Rattle.serde_json.specs.Data.{Data}
use Rattle.job_language.specs.declared.answers.Answer.TheVariants as answer
use Rattle.job_language.specs.declared.answers.Came.TheVariants.{At}
use Rattle.job_language.specs.declared.answers.Moved.{Moved}
use Rattle.job_language.specs.declared.answers.Moved.TheVariants.{Ran, Nested, Freed}
use Rattle.job_language.specs.declared.answers.Reply.{Reply}
use Rattle.job_language.specs.declared.errors.Error.{Error}
use Rattle.job_language.specs.declared.requests.Request.{Request}
use Rattle.job_language.specs.declared.requests.Request.TheVariants.{Hello}
use Rattle.job_language.specs.declared.steps.Entry.{Entry}
use Rattle.job_language.specs.declared.steps.Step.TheVariants as step
use Rattle.job_json.specs.Instruction.{below}
use Rattle.job_json.specs.Json.{◌>>=◌, get_as, whole}
use Rattle.request_reader.specs.LineAsks.{value_in}
use Rattle.dump_lines.specs.declared.lines.Said.{Said}
use Rattle.dump_lines.specs.declared.lines.Said.TheVariants as said
use Rattle.dump_lines.specs.Replies.{is_word, number, only, reply_in, sure, two}
use Rattle.dump_lines.specs.Requests.{request_in}

-- the request that a history may hold: one that is valid and no hello
abbrev pub recorded : Result Request Error → Option Request
recorded (Ok (Hello name)) = None
recorded result = result_ok result

abbrev pub ask : Request → Reply → Entry
ask request reply = record { step = step.Ask request; answer = answer.Replied reply }

abbrev pub arrival : (slot row : ℕ) → Entry
arrival slot row = record { step = step.Arrive slot; answer = answer.Came (At row) }

abbrev pub advance : ℕ → Moved → Entry
advance slot moved = record { step = step.Advance slot; answer = answer.Moved moved }

-- an advance that started another row
abbrev pub nested_in : Data → Option (Option Moved)
nested_in d = only 4 d (option_map (option_map Nested) (number whole (codes "row") d))

-- what an advance did, by its word
abbrev pub moved_in : Data → Option (Option Moved)
moved_in d =
    if is_word (codes "moved") (codes "ran") d then only 3 d (Some (Some Ran))
    else if is_word (codes "moved") (codes "freed") d then only 3 d (Some (Some Freed))
    else if is_word (codes "moved") (codes "nested") d then nested_in d
    else None

abbrev pub ask_in : Data → Option (Option Entry)
ask_in d =
    only 3 d (two (two ask) (sure (λ r. recorded (request_in r)) (codes "request") d)
    (get_as (codes "reply") reply_in d))

abbrev pub arrival_in : Data → Option (Option Entry)
arrival_in d = only 4 d (two (two arrival) (number (below 256) (codes "slot") d) (number whole (codes "row") d))

abbrev pub advance_in : Data → Option (Option Entry)
advance_in d = two (two advance) (number (below 256) (codes "slot") d) (moved_in d)

-- the entry that a value spells; none inside, if its slot or its answer is none of a tenant's
abbrev pub entry_in : Data → Option (Option Entry)
entry_in d =
    if is_word (codes "step") (codes "ask") d then ask_in d
    else if is_word (codes "step") (codes "arrive") d && is_word (codes "moved") (codes "arrived") d then arrival_in d
    else if is_word (codes "step") (codes "advance") d then advance_in d
    else None

abbrev pub said_in_value : Data → Option Said
said_in_value d = option_map (λ entry. option_map_or (λ e. said.Entry e) entry said.Foreign) (entry_in d)

-- It is read as this entry.
abbrev pub SaysEntry : Data → Entry → Type 0
SaysEntry d e = said_in_value d ≡ Some (said.Entry e)

-- what a line says, if it has the shape of an entry
abbrev pub said_by : List ℕ → Option Said
said_by line = value_in line >>= said_in_value
