use Rattle.std.proofs.Common.{length}
use Rattle.std.specs.Prelude.{◌↔◌}
use Rattle.tenant_record.specs.Logs.{IsLog}
use Rattle.tenant_record.proofs.logs.is_log.Given as goal

abbrev pub invariant-loop-entries : goal.invariant-loop-entries
invariant-loop-entries l = IsLog l.fn.slot l.fn.history l.fn.log ↔ IsLog l.slot l.entries l.left

abbrev pub decreases-loop-entries : goal.decreases-loop-entries
decreases-loop-entries l = length l.entries
