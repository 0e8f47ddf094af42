use Rattle.std.proofs.Common.{length}
use Rattle.server_program.proofs.ends.+report_ends.Given as goal

abbrev pub decreases-report_ends : goal.decreases-report_ends
decreases-report_ends g l = length l.ends.now
