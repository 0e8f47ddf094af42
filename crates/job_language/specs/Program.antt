-- What makes a procedure and a program valid.
use Rattle.std.specs.Prelude.{ℕ, ◌-◌, ◌<◌, ◌≤◌, List, length, Bool, true, false, IsTrue, All, slice_get, IfSome, FitsSigned}
use Rattle.std.specs.Int.{w64}
use Rattle.job_language.specs.declared.instructions.TheConstants.{REGISTERS, GROUPS, KEYS}
use Rattle.job_language.specs.declared.instructions.Instr.{Instr}
use Rattle.job_language.specs.declared.instructions.Instr.TheVariants.{Set, Add, Sub, Mul, Div, Lt, Rem, And, Or, Xor, Shl, Shr, Eq, Le, Jz, Jmp, Slot, Width, Spawn, Post, Wait, Cancel, Ask, Isolate}
use Rattle.job_language.specs.declared.instructions.Instr.TheVariants.{Load, Store, Sum, Count, Ret}
use Rattle.job_language.specs.declared.programs.TheConstants.{MAX_PROCS, MAX_INSTRS}

abbrev pub IsRegister : ℕ → Type 0
IsRegister r = r < REGISTERS

abbrev pub IsGroup : ℕ → Type 0
IsGroup g = g < GROUPS

abbrev pub IsKey : ℕ → Type 0
IsKey k = k < KEYS

-- The registers, group, key, number and target that an instruction names are in range, in a procedure of that many instructions.
abbrev pub IsInRange : (instrs : ℕ) → Instr → Type 0
IsInRange instrs (Set d n) = IsRegister d × FitsSigned w64 n
IsInRange instrs (Add d a b) = IsRegister d × IsRegister a × IsRegister b
IsInRange instrs (Sub d a b) = IsRegister d × IsRegister a × IsRegister b
IsInRange instrs (Mul d a b) = IsRegister d × IsRegister a × IsRegister b
IsInRange instrs (Div d a b) = IsRegister d × IsRegister a × IsRegister b
IsInRange instrs (Lt d a b) = IsRegister d × IsRegister a × IsRegister b
IsInRange instrs (Rem d a b) = IsRegister d × IsRegister a × IsRegister b
IsInRange instrs (And d a b) = IsRegister d × IsRegister a × IsRegister b
IsInRange instrs (Or d a b) = IsRegister d × IsRegister a × IsRegister b
IsInRange instrs (Xor d a b) = IsRegister d × IsRegister a × IsRegister b
IsInRange instrs (Shl d a b) = IsRegister d × IsRegister a × IsRegister b
IsInRange instrs (Shr d a b) = IsRegister d × IsRegister a × IsRegister b
IsInRange instrs (Eq d a b) = IsRegister d × IsRegister a × IsRegister b
IsInRange instrs (Le d a b) = IsRegister d × IsRegister a × IsRegister b
IsInRange instrs (Jz a t) = IsRegister a × (t < instrs)
IsInRange instrs (Jmp t) = t < instrs
IsInRange instrs (Slot d) = IsRegister d
IsInRange instrs (Width d) = IsRegister d
IsInRange instrs (Spawn g p a b) = IsGroup g × IsRegister a × IsRegister b
IsInRange instrs (Post p a b) = IsRegister a × IsRegister b
IsInRange instrs (Wait d e g) = IsRegister d × IsRegister e × IsGroup g
IsInRange instrs (Cancel g) = IsGroup g
IsInRange instrs (Ask d) = IsRegister d
IsInRange instrs (Isolate d p a b) = IsRegister d × IsRegister a × IsRegister b
IsInRange instrs (Load d k) = IsRegister d × IsKey k
IsInRange instrs (Store k a) = IsKey k × IsRegister a
IsInRange instrs (Sum d k) = IsRegister d × IsKey k
IsInRange instrs (Count d k) = IsRegister d × IsKey k
IsInRange instrs (Ret a) = IsRegister a

-- may a procedure end with it?
abbrev pub is_last : Instr → Bool
is_last (Jmp t) = true
is_last (Ret a) = true
is_last i = false

pub record IsValidProc (instrs : List Instr) : Type 0 where
  pub some : 0 < length instrs
  pub most : length instrs ≤ MAX_INSTRS
  pub each : All (IsInRange (length instrs)) instrs
  pub ends : IfSome (slice_get instrs (length instrs - 1)) (λ i. IsTrue (is_last i))

-- The procedure that an instruction names is there, in a program of `procs`.
abbrev pub Calls : (procs : ℕ) → Instr → Type 0
Calls procs (Spawn g p a b) = p < procs
Calls procs (Post p a b) = p < procs
Calls procs (Isolate d p a b) = p < procs
Calls procs i = Unit {0}

pub record IsValidProgram (procs : List (List Instr)) : Type 0 where
  pub some : 0 < length procs
  pub most : length procs ≤ MAX_PROCS
  pub each : All IsValidProc procs
  pub calls : All (All (Calls (length procs))) procs
