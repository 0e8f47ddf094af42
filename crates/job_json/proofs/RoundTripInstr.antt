-- An instruction is what its JSON spells.
use Rattle.std.proofs.Common.{◌≡◌, ℕ, ◌<◌, ◌^◌, ℤ, pos, negsuc, refl, arith, Some}
use Rattle.std.specs.Prelude.{FitsSigned}
use Rattle.std.specs.Int.{w64}
use Rattle.std.proofs.lemmas.Bool.{lt-ltb}
use Rattle.std.proofs.lemmas.Int.{ints}
use Rattle.job_language.specs.declared.instructions.Instr.{Instr}
use Rattle.job_language.specs.declared.instructions.Instr.TheVariants.{Set, Add, Sub, Mul, Div, Lt, Rem, And, Or, Xor, Shl, Shr, Eq, Le, Jz, Jmp, Slot, Width, Spawn, Post, Wait, Cancel, Ask, Isolate}
use Rattle.job_language.specs.declared.instructions.Instr.TheVariants.{Load, Store, Sum, Count, Ret}
use Rattle.job_language.specs.Program.{IsInRange, Calls}
use Rattle.job_json.specs.Json.{integer}
use Rattle.job_json.specs.Instruction.{one, two, three, four, instr_from, instr_of}
use Rattle.job_json.specs.JobData.{instr_data, number_data}

-- a number of 64 bits is below 2 ^ 63, if it isn't negative
pub integer-number_data : (n : ℤ) → FitsSigned w64 n → integer (number_data n) ≡ Some n
integer-number_data (pos n) h =
    let below : n < 2 ^ 63 = omega (arith, ints) in
    simp (lt-ltb n (2 ^ 63) below)
integer-number_data (negsuc n) h = refl

pub instr_of-instr_data : (procs instrs : ℕ) (i : Instr) → IsInRange instrs i → Calls procs i → instr_of procs instrs (instr_data i) ≡ Some i
unfolding instr_from one two three four
instr_of-instr_data procs instrs (Set d n) h calls = simp (lt-ltb d 8 h.0, integer-number_data n h.1)
instr_of-instr_data procs instrs (Add d a b) h calls = simp (lt-ltb d 8 h.0, lt-ltb a 8 h.1, lt-ltb b 8 h.2)
instr_of-instr_data procs instrs (Sub d a b) h calls = simp (lt-ltb d 8 h.0, lt-ltb a 8 h.1, lt-ltb b 8 h.2)
instr_of-instr_data procs instrs (Mul d a b) h calls = simp (lt-ltb d 8 h.0, lt-ltb a 8 h.1, lt-ltb b 8 h.2)
instr_of-instr_data procs instrs (Div d a b) h calls = simp (lt-ltb d 8 h.0, lt-ltb a 8 h.1, lt-ltb b 8 h.2)
instr_of-instr_data procs instrs (Lt d a b) h calls = simp (lt-ltb d 8 h.0, lt-ltb a 8 h.1, lt-ltb b 8 h.2)
instr_of-instr_data procs instrs (Rem d a b) h calls = simp (lt-ltb d 8 h.0, lt-ltb a 8 h.1, lt-ltb b 8 h.2)
instr_of-instr_data procs instrs (And d a b) h calls = simp (lt-ltb d 8 h.0, lt-ltb a 8 h.1, lt-ltb b 8 h.2)
instr_of-instr_data procs instrs (Or d a b) h calls = simp (lt-ltb d 8 h.0, lt-ltb a 8 h.1, lt-ltb b 8 h.2)
instr_of-instr_data procs instrs (Xor d a b) h calls = simp (lt-ltb d 8 h.0, lt-ltb a 8 h.1, lt-ltb b 8 h.2)
instr_of-instr_data procs instrs (Shl d a b) h calls = simp (lt-ltb d 8 h.0, lt-ltb a 8 h.1, lt-ltb b 8 h.2)
instr_of-instr_data procs instrs (Shr d a b) h calls = simp (lt-ltb d 8 h.0, lt-ltb a 8 h.1, lt-ltb b 8 h.2)
instr_of-instr_data procs instrs (Eq d a b) h calls = simp (lt-ltb d 8 h.0, lt-ltb a 8 h.1, lt-ltb b 8 h.2)
instr_of-instr_data procs instrs (Le d a b) h calls = simp (lt-ltb d 8 h.0, lt-ltb a 8 h.1, lt-ltb b 8 h.2)
instr_of-instr_data procs instrs (Jz a t) h calls = simp (lt-ltb a 8 h.0, lt-ltb t instrs h.1)
instr_of-instr_data procs instrs (Jmp t) h calls = simp (lt-ltb t instrs h)
instr_of-instr_data procs instrs (Slot d) h calls = simp (lt-ltb d 8 h)
instr_of-instr_data procs instrs (Width d) h calls = simp (lt-ltb d 8 h)
instr_of-instr_data procs instrs (Spawn g p a b) h calls = simp (lt-ltb g 4 h.0, lt-ltb p procs calls, lt-ltb a 8 h.1, lt-ltb b 8 h.2)
instr_of-instr_data procs instrs (Post p a b) h calls = simp (lt-ltb p procs calls, lt-ltb a 8 h.0, lt-ltb b 8 h.1)
instr_of-instr_data procs instrs (Wait d e g) h calls = simp (lt-ltb d 8 h.0, lt-ltb e 8 h.1, lt-ltb g 4 h.2)
instr_of-instr_data procs instrs (Cancel g) h calls = simp (lt-ltb g 4 h)
instr_of-instr_data procs instrs (Ask d) h calls = simp (lt-ltb d 8 h)
instr_of-instr_data procs instrs (Isolate d p a b) h calls = simp (lt-ltb d 8 h.0, lt-ltb p procs calls, lt-ltb a 8 h.1, lt-ltb b 8 h.2)
instr_of-instr_data procs instrs (Load d k) h calls = simp (lt-ltb d 8 h.0, lt-ltb k 8 h.1)
instr_of-instr_data procs instrs (Store k a) h calls = simp (lt-ltb k 8 h.0, lt-ltb a 8 h.1)
instr_of-instr_data procs instrs (Sum d k) h calls = simp (lt-ltb d 8 h.0, lt-ltb k 8 h.1)
instr_of-instr_data procs instrs (Count d k) h calls = simp (lt-ltb d 8 h.0, lt-ltb k 8 h.1)
instr_of-instr_data procs instrs (Ret a) h calls = simp (lt-ltb a 8 h)
