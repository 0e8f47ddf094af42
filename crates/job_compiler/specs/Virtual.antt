-- Instructions over virtual registers, as instructions whose registers are any numbers.
use Rattle.job_language.specs.declared.instructions.Instr.{Instr}
use Rattle.job_language.specs.declared.instructions.Instr.TheVariants as instr
use Rattle.job_compiler.specs.declared.virtuals.VirtualInstr.{VirtualInstr}
use Rattle.job_compiler.specs.declared.virtuals.VirtualInstr.TheVariants.{Set, Two, Slot, Width, Jz, Jmp, Spawn, Post, Isolate, Wait, Cancel, Ask, Load, Sum, Count, Store, Ret}
use Rattle.job_compiler.specs.Code.{op_instr}

abbrev pub instr_of : VirtualInstr → Instr
instr_of (Set d n) = instr.Set d n
instr_of (Two op d a b) = op_instr op d a b
instr_of (Slot d) = instr.Slot d
instr_of (Width d) = instr.Width d
instr_of (Jz a t) = instr.Jz a t
instr_of (Jmp t) = instr.Jmp t
instr_of (Spawn g p a b) = instr.Spawn g p a b
instr_of (Post p a b) = instr.Post p a b
instr_of (Isolate d p a b) = instr.Isolate d p a b
instr_of (Wait d e g) = instr.Wait d e g
instr_of (Cancel g) = instr.Cancel g
instr_of (Ask d) = instr.Ask d
instr_of (Load d k) = instr.Load d k
instr_of (Sum d k) = instr.Sum d k
instr_of (Count d k) = instr.Count d k
instr_of (Store k a) = instr.Store k a
instr_of (Ret a) = instr.Ret a
