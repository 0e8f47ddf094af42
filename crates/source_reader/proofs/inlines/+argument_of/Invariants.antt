use Rattle.std.proofs.Common.{length}
use Rattle.source_reader.proofs.inlines.+argument_of.Given as goal

abbrev pub decreases-argument_of : goal.decreases-argument_of
decreases-argument_of l = length l.arguments.now
