use Rattle.values_again.proofs.Followed.{again_compiled}
use Rattle.values_again.proofs.laws.again_is_compiled.Goals as goal

pub returns : goal.returns
returns c = again_compiled
