use Rattle.std.proofs.Common.{length}
use Rattle.tenant_lock.proofs.looks.+have_more.Given as goal

abbrev pub decreases-have_more : goal.decreases-have_more
decreases-have_more l = length (l.procs.now)
