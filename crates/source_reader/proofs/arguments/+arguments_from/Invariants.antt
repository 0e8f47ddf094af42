use Rattle.std.proofs.Common.{length}
use Rattle.source_reader.proofs.arguments.+arguments_from.Given as goal

abbrev pub decreases-arguments_from : goal.decreases-arguments_from
decreases-arguments_from l = length l.widths.now
