use Rattle.source_rows.proofs.EachState.{rows_follow_after}
use Rattle.source_rows.proofs.laws.rows_follow_source.Goals as goal

pub returns : goal.returns
returns c = rows_follow_after
