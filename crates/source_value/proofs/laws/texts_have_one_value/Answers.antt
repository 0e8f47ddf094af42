use Rattle.source_value.proofs.Trees.{one_value}
use Rattle.source_value.proofs.laws.texts_have_one_value.Goals as goal

pub returns : goal.returns
returns c = one_value
