use Rattle.std.proofs.Common.{length}
use Rattle.source_reader.proofs.questions.+asked_again.Given as goal

abbrev pub decreases-asked_again : goal.decreases-asked_again
decreases-asked_again l = length l.tokens.now
