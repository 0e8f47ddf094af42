use Rattle.std.proofs.Common.{◌+◌}
use Rattle.job_compiler.proofs.Nodes.{nodes}
use Rattle.job_compiler.proofs.sizes.+size.Given as goal

abbrev pub decreases-expr_size : goal.decreases-expr_size
decreases-expr_size l = nodes l.e.now + nodes l.e.now

abbrev pub decreases-both_size : goal.decreases-both_size
decreases-both_size l = nodes l.a.now + nodes l.b.now + nodes l.a.now + nodes l.b.now + 1
