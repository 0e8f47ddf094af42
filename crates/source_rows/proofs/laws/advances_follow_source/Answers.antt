use Rattle.source_rows.proofs.EachState.{advances_follow_after}
use Rattle.source_rows.proofs.laws.advances_follow_source.Goals as goal

pub returns : goal.returns
returns c = advances_follow_after
