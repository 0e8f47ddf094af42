use Rattle.register_choice.proofs.Reasons.{all_false}
use Rattle.register_choice.proofs.liveness.no_row.Goals as goal

pub returns : goal.returns
returns c u = all_false 256 u
