use Rattle.std.proofs.Common.{All, take, length}
use Rattle.job_language.specs.Program.{IsInRange}
use Rattle.job_compiler.proofs.checks.is_valid_proc.Given as goal

abbrev pub invariant-loop-instr : goal.invariant-loop-instr
invariant-loop-instr l = All (IsInRange (length l.instrs)) (take l.instr-index l.instrs)
