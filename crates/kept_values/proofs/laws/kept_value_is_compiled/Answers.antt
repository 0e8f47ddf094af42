use Rattle.kept_values.proofs.KeptFollowed.{kept_value_compiled}
use Rattle.kept_values.proofs.laws.kept_value_is_compiled.Goals as goal

pub returns : goal.returns
returns c = kept_value_compiled
