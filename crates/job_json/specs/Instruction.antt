-- Which instruction a JSON value spells.
use Rattle.std.specs.Prelude.{ℕ, List, [], ◌∷◌, Option, Some, None, option_map, if◌then◌else◌, nat_lt, codes}
use Rattle.std.specs.Str.{bytes_eq}
use Rattle.serde_json.specs.Data.{Data}
use Rattle.serde_json.specs.Find.{as_str}
use Rattle.job_language.specs.declared.instructions.TheConstants.{REGISTERS, GROUPS, KEYS}
use Rattle.job_language.specs.declared.instructions.Instr.{Instr}
use Rattle.job_language.specs.declared.instructions.Instr.TheVariants as instr
use Rattle.job_json.specs.Json.{◌>>=◌, whole, integer, items_of}

-- a whole number below a limit
abbrev pub below : ℕ → Data → Option ℕ
below limit d = whole d >>= λ n. if nat_lt n limit then Some n else None

abbrev pub register : Data → Option ℕ
register = below REGISTERS

abbrev pub group : Data → Option ℕ
group = below GROUPS

abbrev pub key : Data → Option ℕ
key = below KEYS

-- an operand, and what is made of it
unfoldable pub one : {A B : Type 0} → (Data → Option A) → (A → B) → List Data → Option B
one f make (x ∷ []) = option_map make (f x)
one f make ds = None

-- two operands, and what is made of them
unfoldable pub two : {A B C : Type 0} → (Data → Option A) → (Data → Option B) → (A → B → C) → List Data → Option C
two f g make (x ∷ y ∷ []) = f x >>= λ a. one g (make a) (y ∷ [])
two f g make ds = None

-- three operands
unfoldable pub three : {A B C D : Type 0} → (Data → Option A) → (Data → Option B) → (Data → Option C) → (A → B → C → D) → List Data → Option D
three f g h make (x ∷ y ∷ z ∷ []) = f x >>= λ a. two g h (make a) (y ∷ z ∷ [])
three f g h make ds = None

-- four operands
unfoldable pub four : {A B C D E : Type 0} → (Data → Option A) → (Data → Option B) → (Data → Option C) → (Data → Option D) → (A → B → C → D → E) → List Data → Option E
four f g h k make (x ∷ y ∷ z ∷ w ∷ []) = f x >>= λ a. three g h k (make a) (y ∷ z ∷ w ∷ [])
four f g h k make ds = None

-- The instruction of that name with these operands, in a program and a procedure of these sizes.
unfoldable pub instr_from : (name : List ℕ) → (procs instrs : ℕ) → List Data → Option Instr
instr_from name procs instrs ds =
    if bytes_eq name (codes "set") then two register integer instr.Set ds
    else if bytes_eq name (codes "add") then three register register register instr.Add ds
    else if bytes_eq name (codes "sub") then three register register register instr.Sub ds
    else if bytes_eq name (codes "mul") then three register register register instr.Mul ds
    else if bytes_eq name (codes "div") then three register register register instr.Div ds
    else if bytes_eq name (codes "lt") then three register register register instr.Lt ds
    else if bytes_eq name (codes "rem") then three register register register instr.Rem ds
    else if bytes_eq name (codes "and") then three register register register instr.And ds
    else if bytes_eq name (codes "or") then three register register register instr.Or ds
    else if bytes_eq name (codes "xor") then three register register register instr.Xor ds
    else if bytes_eq name (codes "shl") then three register register register instr.Shl ds
    else if bytes_eq name (codes "shr") then three register register register instr.Shr ds
    else if bytes_eq name (codes "eq") then three register register register instr.Eq ds
    else if bytes_eq name (codes "le") then three register register register instr.Le ds
    else if bytes_eq name (codes "jz") then two register (below instrs) instr.Jz ds
    else if bytes_eq name (codes "jmp") then one (below instrs) instr.Jmp ds
    else if bytes_eq name (codes "slot") then one register instr.Slot ds
    else if bytes_eq name (codes "width") then one register instr.Width ds
    else if bytes_eq name (codes "spawn") then four group (below procs) register register instr.Spawn ds
    else if bytes_eq name (codes "post") then three (below procs) register register instr.Post ds
    else if bytes_eq name (codes "wait") then three register register group instr.Wait ds
    else if bytes_eq name (codes "cancel") then one group instr.Cancel ds
    else if bytes_eq name (codes "ask") then one register instr.Ask ds
    else if bytes_eq name (codes "isolate") then four register (below procs) register register instr.Isolate ds
    else if bytes_eq name (codes "load") then two register key instr.Load ds
    else if bytes_eq name (codes "store") then two key register instr.Store ds
    else if bytes_eq name (codes "sum") then two register key instr.Sum ds
    else if bytes_eq name (codes "count") then two register key instr.Count ds
    else if bytes_eq name (codes "ret") then one register instr.Ret ds
    else None

-- an instruction is a list of its name and its operands
abbrev pub instr_of_list : (procs instrs : ℕ) → List Data → Option Instr
instr_of_list procs instrs [] = None
instr_of_list procs instrs (name ∷ operands) = as_str name >>= λ text. instr_from text procs instrs operands

abbrev pub instr_of : (procs instrs : ℕ) → Data → Option Instr
instr_of procs instrs d = items_of d >>= instr_of_list procs instrs
