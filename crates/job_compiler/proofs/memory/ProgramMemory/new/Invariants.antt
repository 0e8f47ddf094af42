use Rattle.std.proofs.Common.{◌≡◌, length}
use Rattle.job_compiler.proofs.memory.ProgramMemory.new.Given as goal

abbrev pub invariant-loop : goal.invariant-loop
invariant-loop l = length l.each.items ≡ l.counter
