-- What a line of bytes asks for, or the error that refuses it.
use Rattle.std.specs.Prelude.{◌≡◌, ℕ, ◌≤◌, List, length, true, nat_lt, if◌then◌else◌, Option, None, Result, Ok, Err}
use Rattle.std.specs.Option.{ok_or}
use Rattle.std.specs.Str.{is_utf8}
use Rattle.serde_json.specs.Data.{Data}
use Rattle.serde_json.specs.Read.{read}
use Rattle.job_language.specs.declared.errors.Error.{Error}
use Rattle.job_language.specs.declared.errors.Error.TheVariants.{LineTooLong, BadJson, BadRequest}
use Rattle.request_reader.specs.declared.requests.TheConstants.{MAX_REQUEST}
use Rattle.request_reader.specs.Asks.{AskedData, asked_by_value}

-- the JSON value that a text is
abbrev pub value_in : List ℕ → Option Data
value_in line = if is_utf8 line then read line else None

-- that value, or error 2
abbrev pub value_of : List ℕ → Result Data Error
value_of line = ok_or (value_in line) BadJson

-- what a value asks for, or error 3
abbrev pub request_of : Data → Result AskedData Error
request_of d = ok_or (asked_by_value d) BadRequest

abbrev pub asked_in : Result Data Error → Result AskedData Error
asked_in (Ok d) = request_of d
asked_in (Err error) = Err error

abbrev pub asked_by : List ℕ → Result AskedData Error
asked_by line = if nat_lt MAX_REQUEST (length line) then Err LineTooLong else asked_in (value_of line)

-- only a text takes memory
abbrev pub IsText : List ℕ → Type 0
IsText line = is_utf8 line ≡ true

-- a text that is not too long
abbrev pub IsShortText : List ℕ → Type 0
IsShortText line = IsText line × (length line ≤ MAX_REQUEST)
