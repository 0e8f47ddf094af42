use Rattle.std.proofs.Common.{◌≡◌, ◌++◌, drop, take, map}
use Rattle.tenant_model.specs.Changes.{faulted_row}
use Rattle.solo_eval.proofs.stacks.fault_rows.Given as goal

abbrev pub invariant-loop-row : goal.invariant-loop-row
invariant-loop-row l = l.rows ≡ map (faulted_row l.slot l.from) (take l.row-index l.fn.rows) ++ drop l.row-index l.fn.rows
