use Rattle.std.proofs.Common.{All, take}
use Rattle.job_language.specs.Program.{Calls}
use Rattle.job_compiler.proofs.programs.are_calls.Given as goal

abbrev pub invariant-loop-instr : goal.invariant-loop-instr
invariant-loop-instr l = All (Calls l.procs) (take l.instr-index l.instrs)
