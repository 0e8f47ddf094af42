use Rattle.std.proofs.Common.{length}
use Rattle.source_reader.proofs.layouts.+has_width.Given as goal

abbrev pub decreases-has_width : goal.decreases-has_width
decreases-has_width l = length l.widths.now
