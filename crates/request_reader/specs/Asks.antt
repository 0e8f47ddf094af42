-- What a JSON value asks for. A request has exactly the members that are listed.
use Rattle.std.specs.Prelude.{ℕ, List, Option, Some, None, if◌then◌else◌, codes}
use Rattle.std.specs.Str.{bytes_eq}
use Rattle.serde_json.specs.Data.{Data}
use Rattle.serde_json.specs.Find.{get, as_str, as_bool}
use Rattle.job_language.specs.declared.requests.Request.{Request}
use Rattle.job_language.specs.declared.requests.Request.TheVariants.{Hello, Poll, Collect, Cancel, Cells, Arena, Retire, Release, Take}
use Rattle.job_json.specs.Instruction.{key}
use Rattle.job_json.specs.Json.{◌>>=◌, whole, has_members}
use Rattle.job_language.specs.Name.{is_name}

-- a request, with the job of submit and execute as it stands
pub data AskedData : Type 0 where
  plain : Request → AskedData
  submit : Data → AskedData
  execute : Data → AskedData

-- `{"op":..}` alone
abbrev pub alone : Data → Request → Option Request
alone d request = if has_members 1 d then Some request else None

-- the other member of an object of two
abbrev pub operand : List ℕ → Data → Option Data
operand name d = if has_members 2 d then get name d else None

-- any text, which may be no tenant's name
abbrev pub hello_of : Data → Option (Option (List ℕ))
hello_of d = do
  t ← operand (codes "tenant") d
  text ← as_str t
  Some (if is_name text then Some text else None)

abbrev pub number_of : Data → Option ℕ
number_of d = operand (codes "job") d >>= whole

-- a collect with the member that says whether the job is released
abbrev pub collect_with : Data → Option Request
collect_with d = do
  j ← get (codes "job") d
  n ← whole j
  r ← get (codes "release") d
  releases ← as_bool r
  Some (if releases then Take n else Collect n)

-- and one without it
abbrev pub collect_of : Data → Option Request
collect_of d = if has_members 3 d then collect_with d else (number_of d >>= λ n. Some (Collect n))

abbrev pub key_of : Data → Option ℕ
key_of d = operand (codes "key") d >>= key

-- any value
abbrev pub job_value : Data → Option Data
job_value d = operand (codes "job") d

abbrev pub plain_of : List ℕ → Data → Option Request
plain_of op d =
    if bytes_eq op (codes "hello") then (hello_of d >>= λ name. Some (Hello name))
    else if bytes_eq op (codes "poll") then (number_of d >>= λ n. Some (Poll n))
    else if bytes_eq op (codes "collect") then collect_of d
    else if bytes_eq op (codes "cancel") then (number_of d >>= λ n. Some (Cancel n))
    else if bytes_eq op (codes "cells") then (key_of d >>= λ k. Some (Cells k))
    else if bytes_eq op (codes "arena") then alone d Arena
    else if bytes_eq op (codes "retire") then alone d Retire
    else if bytes_eq op (codes "release") then (number_of d >>= λ n. Some (Release n))
    else None

abbrev pub plain_asked : List ℕ → Data → Option AskedData
plain_asked op d = plain_of op d >>= λ request. Some (plain request)

abbrev pub asked_for : List ℕ → Data → Option AskedData
asked_for op d =
    if bytes_eq op (codes "submit") then (job_value d >>= λ job. Some (submit job))
    else if bytes_eq op (codes "execute") then (job_value d >>= λ job. Some (execute job))
    else plain_asked op d

abbrev pub asked_by_value : Data → Option AskedData
asked_by_value d = do
  o ← get (codes "op") d
  op ← as_str o
  asked_for op d
