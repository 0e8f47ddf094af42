-- What the reader of canonical text looks at when all of a procedure, or of a program, is there.
use Rattle.std.specs.Prelude.{ℕ, Bool, true, nat_lt}
use Rattle.job_language.specs.declared.instructions.Instr.{Instr}
use Rattle.job_language.specs.declared.instructions.Instr.TheVariants.{Jz, Jmp, Spawn, Post, Isolate}

abbrev pub jumps_within : (places : ℕ) → Instr → Bool
jumps_within places (Jz a t) = nat_lt t places
jumps_within places (Jmp t) = nat_lt t places
jumps_within places i = true

abbrev pub calls_within : (procs : ℕ) → Instr → Bool
calls_within procs (Spawn g p a b) = nat_lt p procs
calls_within procs (Post p a b) = nat_lt p procs
calls_within procs (Isolate d p a b) = nat_lt p procs
calls_within procs i = true
