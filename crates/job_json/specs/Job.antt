-- The job that a JSON value spells, or the place where the value first breaks the rules.
use Rattle.std.specs.Prelude.{ℕ, ◌+◌, ℤ, List, [], ◌∷◌, length, Bool, false, ◌&&◌, ◌||◌, nat_lt, nat_le, if◌then◌else◌, Option, Some, None, Result, Ok, Err}
use Rattle.std.specs.List.{list_all}
use Rattle.std.specs.Option.{option_map_or, ok_or}
use Rattle.serde_json.specs.Data.{Data}
use Rattle.std.specs.Prelude.{codes}
use Rattle.job_json.specs.declared.errors.Place.{Place}
use Rattle.job_json.specs.declared.errors.Place.TheVariants.{Head, At}
use Rattle.job_language.specs.declared.instructions.Instr.{Instr}
use Rattle.job_language.specs.declared.jobs.Job.{Job}
use Rattle.job_language.specs.declared.jobs.TheConstants.{MAX_FUEL}
use Rattle.job_language.specs.declared.programs.TheConstants.{MAX_PROCS, MAX_INSTRS}
use Rattle.job_json.specs.Json.{◌>>=◌, get_as, result_map, integer, number_in, items_of, has_members}
use Rattle.job_json.specs.Instruction.{two, instr_of}
use Rattle.job_language.specs.Program.{is_last}

-- the whole, before any instruction is looked at
pub record Outline : Type 0 where
  pub args : List ℤ
  pub fuel : ℕ
  pub procs : List Data

abbrev pub args_of : Data → Option (List ℤ)
args_of d = items_of d >>= two integer integer (λ x y. x ∷ y ∷ [])

-- a list of 1 to 256 things
abbrev pub is_proc : Data → Bool
is_proc d = option_map_or (λ ds. nat_le 1 (length ds) && nat_le (length ds) MAX_INSTRS) (items_of d) false

-- 1 to 16 procedures
abbrev pub are_procs : List Data → Bool
are_procs ps = nat_le 1 (length ps) && nat_le (length ps) MAX_PROCS && list_all is_proc ps

abbrev pub procs_of : Data → Option (List Data)
procs_of d = items_of d >>= λ ps. if are_procs ps then Some ps else None

abbrev pub outline_of_members : Data → Option Outline
outline_of_members d = do
  args ← get_as (codes "args") args_of d
  fuel ← get_as (codes "fuel") (number_in 1 MAX_FUEL) d
  procs ← get_as (codes "procs") procs_of d
  Some (record { args = args; fuel = fuel; procs = procs })

abbrev pub outline_of : Data → Option Outline
outline_of d = if has_members 3 d then outline_of_members d else None

-- The instruction at a place of a procedure. The last one is a `ret` or a `jmp`.
abbrev pub instr_at : (procs instrs place : ℕ) → Data → Option Instr
instr_at procs instrs place d = instr_of procs instrs d >>= λ i. if is_last i || nat_lt (place + 1) instrs then Some i else None

-- an item, and then the others, or the first place with none
abbrev pub item_then : {A : Type 0} → Result A Place → Result (List A) Place → Result (List A) Place
item_then (Ok x) rest = result_map (λ xs. x ∷ xs) rest
item_then (Err place) rest = Err place

-- the instructions of a procedure from a place on, or the first place with none
abbrev pub instrs_from : (procs number instrs place : ℕ) → List Data → Result (List Instr) Place
instrs_from procs number instrs place [] = Ok []
instrs_from procs number instrs place (d ∷ ds) = item_then (ok_or (instr_at procs instrs place d) (At number place)) (instrs_from procs number instrs (place + 1) ds)

abbrev pub proc_of : (procs number : ℕ) → List Data → Result (List Instr) Place
proc_of procs number ds = instrs_from procs number (length ds) 0 ds

abbrev pub proc_at : (procs number : ℕ) → Data → Result (List Instr) Place
proc_at procs number d = option_map_or (proc_of procs number) (items_of d) (Ok [])

-- the procedures from a number on, in a program of `procs`
abbrev pub procs_from : (procs number : ℕ) → List Data → Result (List (List Instr)) Place
procs_from procs number [] = Ok []
procs_from procs number (d ∷ ds) = item_then (proc_at procs number d) (procs_from procs (number + 1) ds)

abbrev pub job_in : Outline → Result Job Place
job_in o = result_map (λ procs. record { program = procs; args = o.args; fuel = o.fuel }) (procs_from (length o.procs) 0 o.procs)

abbrev pub job_of : Data → Result Job Place
job_of d = option_map_or job_in (outline_of d) (Err Head)
