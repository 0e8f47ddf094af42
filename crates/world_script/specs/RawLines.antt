-- What a line of a script asks a world to do. It has exactly the members that are listed.
use Rattle.std.specs.Prelude.{ℕ, List, Option, Some, None, if◌then◌else◌, codes}
use Rattle.std.specs.Str.{bytes_eq}
use Rattle.serde_json.specs.Data.{Data}
use Rattle.serde_json.specs.Find.{get, as_str}
use Rattle.job_json.specs.Json.{◌>>=◌, whole, has_members}

-- a step of a tenant that is named, or of a worker
pub data RawData : Type 0 where
  line : (tenant text : List ℕ) → RawData
  master : (tenant : List ℕ) → (slot : ℕ) → RawData
  push : (tenant : List ℕ) → (slot : ℕ) → RawData
  pop : (worker : ℕ) → RawData
  arrive : (worker : ℕ) → RawData
  advance : (worker : ℕ) → RawData

abbrev pub text_of : List ℕ → Data → Option (List ℕ)
text_of name d = get name d >>= as_str

abbrev pub number_of : List ℕ → Data → Option ℕ
number_of name d = get name d >>= whole

-- a step that names a tenant, and then a text or a slot
abbrev pub tenant_step : List ℕ → List ℕ → Data → Option RawData
tenant_step step tenant d =
    if bytes_eq step (codes "line") then (text_of (codes "text") d >>= λ text. Some (line tenant text))
    else if bytes_eq step (codes "master") then (number_of (codes "slot") d >>= λ slot. Some (master tenant slot))
    else if bytes_eq step (codes "push") then (number_of (codes "slot") d >>= λ slot. Some (push tenant slot))
    else None

-- a step of a worker
abbrev pub worker_step : List ℕ → ℕ → Option RawData
worker_step step worker =
    if bytes_eq step (codes "pop") then Some (pop worker)
    else if bytes_eq step (codes "arrive") then Some (arrive worker)
    else if bytes_eq step (codes "advance") then Some (advance worker)
    else None

abbrev pub members_step : List ℕ → Data → Option RawData
members_step step d =
    if has_members 3 d then (text_of (codes "tenant") d >>= λ tenant. tenant_step step tenant d)
    else if has_members 2 d then (number_of (codes "worker") d >>= λ worker. worker_step step worker)
    else None

-- the step that a value spells
abbrev pub raw_line : Data → Option RawData
raw_line d = text_of (codes "step") d >>= λ step. members_step step d
