use Rattle.std.proofs.Common.{length}
use Rattle.source_reader.proofs.layouts.+unpacking.Given as goal

abbrev pub decreases-unpacking : goal.decreases-unpacking
decreases-unpacking l = length l.widths.now
