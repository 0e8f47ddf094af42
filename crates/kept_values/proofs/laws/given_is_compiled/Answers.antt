use Rattle.kept_values.proofs.Unread.{given_compiled}
use Rattle.kept_values.proofs.laws.given_is_compiled.Goals as goal

pub returns : goal.returns
returns c = given_compiled
