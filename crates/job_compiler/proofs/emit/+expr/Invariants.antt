use Rattle.std.proofs.Common.{◌+◌}
use Rattle.job_compiler.proofs.Nodes.{nodes}
use Rattle.job_compiler.proofs.emit.+expr.Given as goal

abbrev pub decreases-emit_expr : goal.decreases-emit_expr
decreases-emit_expr l = nodes l.e.now + nodes l.e.now

abbrev pub decreases-emit_both : goal.decreases-emit_both
decreases-emit_both l = nodes l.a.now + nodes l.b.now + nodes l.a.now + nodes l.b.now + 1
