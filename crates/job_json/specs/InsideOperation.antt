-- How the code finds an instruction by its name, and makes it of its operands.
use Rattle.std.specs.Prelude.{ℕ, List, Option, Some, None, if◌then◌else◌, codes}
use Rattle.std.specs.Str.{bytes_eq}
use Rattle.serde_json.specs.Data.{Data}
use Rattle.job_language.specs.declared.instructions.Instr.{Instr}
use Rattle.job_language.specs.declared.instructions.Instr.TheVariants as instr
use Rattle.job_json.specs.declared.operations.Operation.{Operation}
use Rattle.job_json.specs.declared.operations.Operation.TheVariants.{Set, Add, Sub, Mul, Div, Lt, Rem, And, Or, Xor, Shl, Shr, Eq, Le, Jz, Jmp, Slot, Width, Spawn, Post, Wait, Cancel, Ask, Isolate}
use Rattle.job_json.specs.declared.operations.Operation.TheVariants.{Load, Store, Sum, Count, Ret}
use Rattle.job_json.specs.Instruction.{register, group, key, below, one, two, three, four}
use Rattle.job_json.specs.Json.{integer}

abbrev pub operation_named : List ℕ → Option Operation
operation_named name =
    if bytes_eq name (codes "set") then Some Set
    else if bytes_eq name (codes "add") then Some Add
    else if bytes_eq name (codes "sub") then Some Sub
    else if bytes_eq name (codes "mul") then Some Mul
    else if bytes_eq name (codes "div") then Some Div
    else if bytes_eq name (codes "lt") then Some Lt
    else if bytes_eq name (codes "rem") then Some Rem
    else if bytes_eq name (codes "and") then Some And
    else if bytes_eq name (codes "or") then Some Or
    else if bytes_eq name (codes "xor") then Some Xor
    else if bytes_eq name (codes "shl") then Some Shl
    else if bytes_eq name (codes "shr") then Some Shr
    else if bytes_eq name (codes "eq") then Some Eq
    else if bytes_eq name (codes "le") then Some Le
    else if bytes_eq name (codes "jz") then Some Jz
    else if bytes_eq name (codes "jmp") then Some Jmp
    else if bytes_eq name (codes "slot") then Some Slot
    else if bytes_eq name (codes "width") then Some Width
    else if bytes_eq name (codes "spawn") then Some Spawn
    else if bytes_eq name (codes "post") then Some Post
    else if bytes_eq name (codes "wait") then Some Wait
    else if bytes_eq name (codes "cancel") then Some Cancel
    else if bytes_eq name (codes "ask") then Some Ask
    else if bytes_eq name (codes "isolate") then Some Isolate
    else if bytes_eq name (codes "load") then Some Load
    else if bytes_eq name (codes "store") then Some Store
    else if bytes_eq name (codes "sum") then Some Sum
    else if bytes_eq name (codes "count") then Some Count
    else if bytes_eq name (codes "ret") then Some Ret
    else None

-- the instruction of an operation with these operands
unfoldable pub made_of : Operation → (procs instrs : ℕ) → List Data → Option Instr
made_of Set procs instrs ds = two register integer instr.Set ds
made_of Add procs instrs ds = three register register register instr.Add ds
made_of Sub procs instrs ds = three register register register instr.Sub ds
made_of Mul procs instrs ds = three register register register instr.Mul ds
made_of Div procs instrs ds = three register register register instr.Div ds
made_of Lt procs instrs ds = three register register register instr.Lt ds
made_of Rem procs instrs ds = three register register register instr.Rem ds
made_of And procs instrs ds = three register register register instr.And ds
made_of Or procs instrs ds = three register register register instr.Or ds
made_of Xor procs instrs ds = three register register register instr.Xor ds
made_of Shl procs instrs ds = three register register register instr.Shl ds
made_of Shr procs instrs ds = three register register register instr.Shr ds
made_of Eq procs instrs ds = three register register register instr.Eq ds
made_of Le procs instrs ds = three register register register instr.Le ds
made_of Jz procs instrs ds = two register (below instrs) instr.Jz ds
made_of Jmp procs instrs ds = one (below instrs) instr.Jmp ds
made_of Slot procs instrs ds = one register instr.Slot ds
made_of Width procs instrs ds = one register instr.Width ds
made_of Spawn procs instrs ds = four group (below procs) register register instr.Spawn ds
made_of Post procs instrs ds = three (below procs) register register instr.Post ds
made_of Wait procs instrs ds = three register register group instr.Wait ds
made_of Cancel procs instrs ds = one group instr.Cancel ds
made_of Ask procs instrs ds = one register instr.Ask ds
made_of Isolate procs instrs ds = four register (below procs) register register instr.Isolate ds
made_of Load procs instrs ds = two register key instr.Load ds
made_of Store procs instrs ds = two key register instr.Store ds
made_of Sum procs instrs ds = two register key instr.Sum ds
made_of Count procs instrs ds = two register key instr.Count ds
made_of Ret procs instrs ds = one register instr.Ret ds
