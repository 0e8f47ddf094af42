use Rattle.std.proofs.Common.{List, ℕ, drop, ◌++◌}
use Rattle.job_json.specs.CanonicalText.{number_then, operands_then}
use Rattle.part_writer.proofs.Added.{GoesOn}
use Rattle.part_writer.proofs.instructions.add_list.Given as goal
use Rattle.std.specs.Prelude.{true}

abbrev pub invariant-loop-operand : goal.invariant-loop-operand
invariant-loop-operand l = GoesOn number_then l.fn.text.items l.text.items true (drop l.operand-index l.operands) (λ rest. l.begin ++ operands_then l.operands rest)
