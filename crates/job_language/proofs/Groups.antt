-- The group that an instruction names.
use Rattle.std.proofs.Common.{ℕ, ◌<◌, Option, Some, None}
use Rattle.std.specs.Prelude.{IfSome}
use Rattle.job_language.specs.declared.instructions.TheConstants.{GROUPS}
use Rattle.job_language.specs.declared.instructions.Instr.{Instr}
use Rattle.job_language.specs.declared.instructions.Instr.TheVariants.{Spawn, Wait, Cancel}
use Rattle.job_language.specs.Program.{IsInRange}

abbrev pub group_of : Instr → Option ℕ
group_of (Spawn g p a b) = Some g
group_of (Wait d e g) = Some g
group_of (Cancel g) = Some g
group_of i = None

pub group-in_range : (instrs : ℕ) (i : Instr) → IsInRange instrs i → IfSome (group_of i) (λ g. g < GROUPS)
group-in_range instrs (Spawn g p a b) h = h.0
group-in_range instrs (Wait d e g) h = h.2
group-in_range instrs (Cancel g) h = h
group-in_range instrs i h = tt
