use Rattle.std.proofs.Common.{length}
use Rattle.source_reader.proofs.headers.+callee_in.Given as goal

abbrev pub decreases-callee_in : goal.decreases-callee_in
decreases-callee_in l = length l.headers.now
