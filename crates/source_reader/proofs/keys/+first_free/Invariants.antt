use Rattle.std.proofs.Common.{length}
use Rattle.source_reader.proofs.keys.+first_free.Given as goal

abbrev pub decreases-first_free : goal.decreases-first_free
decreases-first_free l = length l.keys.now
