use Rattle.std.proofs.Common.{◌+◌}
use Rattle.job_compiler.proofs.Nodes.{nodes}
use Rattle.job_compiler.proofs.registers.+low.Given as goal

abbrev pub decreases-operand_low : goal.decreases-operand_low
decreases-operand_low l = nodes l.e.now + nodes l.e.now

abbrev pub decreases-both_low : goal.decreases-both_low
decreases-both_low l = nodes l.a.now + nodes l.b.now + nodes l.a.now + nodes l.b.now + 1
