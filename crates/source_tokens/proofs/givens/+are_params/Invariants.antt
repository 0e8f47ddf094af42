use Rattle.std.proofs.Common.{length}
use Rattle.source_tokens.proofs.givens.+are_params.Given as goal

abbrev pub decreases-are_params : goal.decreases-are_params
decreases-are_params l = length l.givens.now
