use Rattle.std.proofs.Common.{◌+◌, ◌*◌}
use Rattle.source_reader.proofs.values.+values.Given as goal

abbrev pub decreases-value_at : goal.decreases-value_at
decreases-value_at l = 2 * l.fuel

abbrev pub decreases-more_at : goal.decreases-more_at
decreases-more_at l = 2 * l.fuel

abbrev pub decreases-single_at : goal.decreases-single_at
decreases-single_at l = 2 * l.fuel

abbrev pub decreases-applied_at : goal.decreases-applied_at
decreases-applied_at l = 2 * l.fuel + 1

abbrev pub decreases-behind_argument : goal.decreases-behind_argument
decreases-behind_argument l = 2 * l.fuel + 1

abbrev pub decreases-argument_at : goal.decreases-argument_at
decreases-argument_at l = 2 * l.fuel

abbrev pub decreases-operands_of : goal.decreases-operands_of
decreases-operands_of l = 2 * l.fuel + 1

abbrev pub decreases-behind_operand : goal.decreases-behind_operand
decreases-behind_operand l = 2 * l.fuel + 1

abbrev pub decreases-operand_at : goal.decreases-operand_at
decreases-operand_at l = 2 * l.fuel
