-- The JSON that a job is.
use Rattle.std.specs.Prelude.{ℕ, ℤ, pos, List, [], ◌∷◌, map, codes}
use Rattle.serde_json.specs.Data.{Data, number, unsigned, string, array, object, member, no_members}
use Rattle.serde_json.specs.Find.{of_integer}
use Rattle.serde_json.specs.View.{items_of}
use Rattle.job_language.specs.declared.instructions.Instr.{Instr}
use Rattle.job_language.specs.declared.instructions.Instr.TheVariants as instr
use Rattle.job_language.specs.declared.jobs.Job.{Job}
use Rattle.job_json.specs.declared.operations.Operation.{Operation}
use Rattle.job_json.specs.declared.operations.Operation.TheVariants.{Set, Add, Sub, Mul, Div, Lt, Rem, And, Or, Xor, Shl, Shr, Eq, Le, Jz, Jmp, Slot, Width, Spawn, Post, Wait, Cancel, Ask, Isolate}
use Rattle.job_json.specs.declared.operations.Operation.TheVariants.{Load, Store, Sum, Count, Ret}
use Rattle.job_json.specs.Operation.{name_of}

abbrev pub operation_of : Instr → Operation
operation_of (instr.Set d n) = Set
operation_of (instr.Add d a b) = Add
operation_of (instr.Sub d a b) = Sub
operation_of (instr.Mul d a b) = Mul
operation_of (instr.Div d a b) = Div
operation_of (instr.Lt d a b) = Lt
operation_of (instr.Rem d a b) = Rem
operation_of (instr.And d a b) = And
operation_of (instr.Or d a b) = Or
operation_of (instr.Xor d a b) = Xor
operation_of (instr.Shl d a b) = Shl
operation_of (instr.Shr d a b) = Shr
operation_of (instr.Eq d a b) = Eq
operation_of (instr.Le d a b) = Le
operation_of (instr.Jz a t) = Jz
operation_of (instr.Jmp t) = Jmp
operation_of (instr.Slot d) = Slot
operation_of (instr.Width d) = Width
operation_of (instr.Spawn g p a b) = Spawn
operation_of (instr.Post p a b) = Post
operation_of (instr.Wait d e g) = Wait
operation_of (instr.Cancel g) = Cancel
operation_of (instr.Ask d) = Ask
operation_of (instr.Isolate d p a b) = Isolate
operation_of (instr.Load d k) = Load
operation_of (instr.Store k a) = Store
operation_of (instr.Sum d k) = Sum
operation_of (instr.Count d k) = Count
operation_of (instr.Ret a) = Ret

-- the operands, in the order of the instruction's text
abbrev pub operands_of : Instr → List ℤ
operands_of (instr.Set d n) = pos d ∷ n ∷ []
operands_of (instr.Add d a b) = pos d ∷ pos a ∷ pos b ∷ []
operands_of (instr.Sub d a b) = pos d ∷ pos a ∷ pos b ∷ []
operands_of (instr.Mul d a b) = pos d ∷ pos a ∷ pos b ∷ []
operands_of (instr.Div d a b) = pos d ∷ pos a ∷ pos b ∷ []
operands_of (instr.Lt d a b) = pos d ∷ pos a ∷ pos b ∷ []
operands_of (instr.Rem d a b) = pos d ∷ pos a ∷ pos b ∷ []
operands_of (instr.And d a b) = pos d ∷ pos a ∷ pos b ∷ []
operands_of (instr.Or d a b) = pos d ∷ pos a ∷ pos b ∷ []
operands_of (instr.Xor d a b) = pos d ∷ pos a ∷ pos b ∷ []
operands_of (instr.Shl d a b) = pos d ∷ pos a ∷ pos b ∷ []
operands_of (instr.Shr d a b) = pos d ∷ pos a ∷ pos b ∷ []
operands_of (instr.Eq d a b) = pos d ∷ pos a ∷ pos b ∷ []
operands_of (instr.Le d a b) = pos d ∷ pos a ∷ pos b ∷ []
operands_of (instr.Jz a t) = pos a ∷ pos t ∷ []
operands_of (instr.Jmp t) = pos t ∷ []
operands_of (instr.Slot d) = pos d ∷ []
operands_of (instr.Width d) = pos d ∷ []
operands_of (instr.Spawn g p a b) = pos g ∷ pos p ∷ pos a ∷ pos b ∷ []
operands_of (instr.Post p a b) = pos p ∷ pos a ∷ pos b ∷ []
operands_of (instr.Wait d e g) = pos d ∷ pos e ∷ pos g ∷ []
operands_of (instr.Cancel g) = pos g ∷ []
operands_of (instr.Ask d) = pos d ∷ []
operands_of (instr.Isolate d p a b) = pos d ∷ pos p ∷ pos a ∷ pos b ∷ []
operands_of (instr.Load d k) = pos d ∷ pos k ∷ []
operands_of (instr.Store k a) = pos k ∷ pos a ∷ []
operands_of (instr.Sum d k) = pos d ∷ pos k ∷ []
operands_of (instr.Count d k) = pos d ∷ pos k ∷ []
operands_of (instr.Ret a) = pos a ∷ []

abbrev pub number_data : ℤ → Data
number_data z = number (of_integer z)

abbrev pub array_of : List Data → Data
array_of ds = array (items_of ds)

-- an operation's name, and then its operands
abbrev pub list_data : Operation → List ℤ → Data
list_data operation operands = array_of (string (name_of operation) ∷ map number_data operands)

abbrev pub instr_data : Instr → Data
instr_data i = list_data (operation_of i) (operands_of i)

abbrev pub proc_data : List Instr → Data
proc_data instrs = array_of (map instr_data instrs)

abbrev pub program_data : List (List Instr) → Data
program_data procs = array_of (map proc_data procs)

abbrev pub job_object : (args : Data) → (fuel : ℕ) → (procs : Data) → Data
job_object args fuel procs =
    object (member (codes "args") args (member (codes "fuel") (number (unsigned fuel)) (member (codes "procs") procs no_members)))

abbrev pub job_data : Job → Data
job_data j = job_object (array_of (map number_data j.args)) j.fuel (program_data j.program)
