use Rattle.std.proofs.Common.{◌+◌, ◌*◌}
use Rattle.source_reader.proofs.statements.+statements.Given as goal

abbrev pub decreases-block_at : goal.decreases-block_at
decreases-block_at l = 2 * l.fuel

abbrev pub decreases-rest_at : goal.decreases-rest_at
decreases-rest_at l = 2 * l.fuel

abbrev pub decreases-asked_before : goal.decreases-asked_before
decreases-asked_before l = 2 * l.fuel + 1

abbrev pub decreases-lines_at : goal.decreases-lines_at
decreases-lines_at l = 2 * l.fuel + 1

abbrev pub decreases-line_at : goal.decreases-line_at
decreases-line_at l = 2 * l.fuel

abbrev pub decreases-branch_at : goal.decreases-branch_at
decreases-branch_at l = 2 * l.fuel

abbrev pub decreases-for_at : goal.decreases-for_at
decreases-for_at l = 2 * l.fuel + 1

abbrev pub decreases-otherwise_at : goal.decreases-otherwise_at
decreases-otherwise_at l = 2 * l.fuel
