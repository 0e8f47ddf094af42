-- The names of instructions.
use Rattle.std.specs.Prelude.{ℕ, List, codes}
use Rattle.job_json.specs.declared.operations.Operation.{Operation}
use Rattle.job_json.specs.declared.operations.Operation.TheVariants.{Set, Add, Sub, Mul, Div, Lt, Rem, And, Or, Xor, Shl, Shr, Eq, Le, Jz, Jmp, Slot, Width, Spawn, Post, Wait, Cancel, Ask, Isolate}
use Rattle.job_json.specs.declared.operations.Operation.TheVariants.{Load, Store, Sum, Count, Ret}

abbrev pub name_of : Operation → List ℕ
name_of Set = codes "set"
name_of Add = codes "add"
name_of Sub = codes "sub"
name_of Mul = codes "mul"
name_of Div = codes "div"
name_of Lt = codes "lt"
name_of Rem = codes "rem"
name_of And = codes "and"
name_of Or = codes "or"
name_of Xor = codes "xor"
name_of Shl = codes "shl"
name_of Shr = codes "shr"
name_of Eq = codes "eq"
name_of Le = codes "le"
name_of Jz = codes "jz"
name_of Jmp = codes "jmp"
name_of Slot = codes "slot"
name_of Width = codes "width"
name_of Spawn = codes "spawn"
name_of Post = codes "post"
name_of Wait = codes "wait"
name_of Cancel = codes "cancel"
name_of Ask = codes "ask"
name_of Isolate = codes "isolate"
name_of Load = codes "load"
name_of Store = codes "store"
name_of Sum = codes "sum"
name_of Count = codes "count"
name_of Ret = codes "ret"
