use Rattle.std.proofs.Common.{length}
use Rattle.source_reader.proofs.built_ins.+extreme_of.Given as goal

abbrev pub decreases-extreme_of : goal.decreases-extreme_of
decreases-extreme_of l = length l.others.now
